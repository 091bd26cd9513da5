-- Which words a call changes, and that putting them back undoes it.
use Rattle.std.proofs.Common.{inl, inr, ◌≡◌, ◌≢◌, ◌∙◌, ℕ, ◌-◌, ◌<◌, ◌≤◌, true, false, List, [], ◌∷◌, ◌++◌, length, map, get_or, ap, refl, sym, subst, arith, slice_set, All, Option, ext_get_or}
use Rattle.std.proofs.lemmas.{Bool.cases_eq, Bool.cases_lt, List.Elements.All-cons, List.Elements.All-nil}
use Rattle.std.proofs.lemmas.List.{get_or_read, get_or_past, set_past, length_push, get_or_append_left, get_or_push}
use Rattle.std.proofs.lemmas.Bool.Decides.{nat_tests}
use Rattle.packed_phaser.specs.{declared.policy.Policy.Policy, Flat.Flat}
use Rattle.tier_tree.specs.{declared.id.PhaserId.PhaserId, Sound.Place, Sound.place_of, Sound.IsForest}
use Rattle.tier_tree.specs.Declaration.{declared, has_parent, IsFreshAbove}
use Rattle.tier_tree.specs.Forest.{PhaserState, no_phaser, phaser_at, root_at}
use Rattle.tier_tree.specs.Stored.{Stored, no_stored, stored_at, kept_flat, top_of, phasers_of, IsNear, IsLive, IsStored, place_in, ChangedOnly, ChangedAt}
use Rattle.tier_tree.specs.Undo.{Kept, kept_at, saved_of, with_kept, restored}
use Rattle.tier_tree.proofs.{Lines.line_within, Lines.forest_declared, Turned.root-root}
use Rattle.tier_tree.proofs.Safe.{linked, line_own, root-parent, last_of, last-more}
use Rattle.tier_tree.proofs.Shown.{top_at, shown_at, length-shown, flat_shown, root_shown, top_there, top-top, present_live, present-phase, present-now, is_put, behind-self}

pub there_shown : (forest : List Stored) (id : ℕ) → id < length forest → id < length (phasers_of forest)
there_shown forest id there = let many = length-shown forest in omega (arith, many, there)

pub there_few : (forest : List Stored) → length forest < 64 → length (phasers_of forest) < 64
there_few forest few = let many = length-shown forest in omega (arith, many, few)

-- the line that is read leads through the forest
pub line_read : (forest : List Stored) (id : ℕ) (s : Stored) (line : List ℕ) → line ≡ s.line → s ≡ get_or forest id s → IsStored forest
    → id < length forest → All (λ (above : ℕ). above < length forest) line
line_read forest id s line is read stored there =
    let same : line ≡ (phaser_at (phasers_of forest) id).line =
    is ∙ ap (λ (x : Stored). x.line) (get_or_read forest id s there read no_stored) ∙ sym (ap (λ (p : PhaserState). p.line) (shown_at forest id there)) in
    grind (arith, length-shown, line_within, there_shown)

-- the root that is read
pub root_read : (forest : List Stored) (id r : ℕ) (s : Stored) → s ≡ get_or forest id s → r ≡ top_of s → IsStored forest → id < length forest
    → (r < length forest) × (root_at (phasers_of forest) r ≡ r)
root_read forest id r s read is stored there = grind (arith, top_at, get_or_read, top_there, root_shown, top-top)

-- a root is alone in its line
pub root-line : (forest : List Stored) (r : ℕ) → IsStored forest → r < length forest → top_at forest r ≡ r → (stored_at forest r).line ≡ r ∷ []
root-line forest r stored there top =
    let ps = phasers_of forest in
    let within = there_shown forest r there in
    let own : (phaser_at ps r).line ≡ (stored_at forest r).line = ap (λ (p : PhaserState). p.line) (shown_at forest r there) in
    elim (linked ps r stored.places within) as (λ _. (stored_at forest r).line ≡ r ∷ []) [
      | inl alone ↦ sym own ∙ alone
      | inr child ↦
          let below : child.0 < r = child.1 in
          let parent_there : child.0 < length ps = omega (arith, below, within) in
          let up = root-parent ps r child.0 stored.places parent_there child.2 in
          let least : root_at ps child.0 ≤ child.0 = (root-root ps (phaser_at ps child.0).line child.0 stored.places parent_there refl).1 in
          let is : root_at ps r ≡ r = root_shown forest r there ∙ top in
          absurd (omega (arith, below, up, least, is))
    ]

-- whoever isn't on a phaser's line isn't its root
not_top : (forest : List Stored) (id n : ℕ) → IsStored forest → id < length forest → All (λ (m : ℕ). n ≢ m) (stored_at forest id).line → n ≢ top_at forest id
not_top forest id n stored there away =
    let own = line_own (phasers_of forest) id stored.places (there_shown forest id there) in
    grind (arith, shown_at)

-- a change of the root alone is one of the line
pub only_root : (before after : List Stored) (id r : ℕ) → IsStored before → id < length before → r ≡ top_at before id
    → ChangedOnly (r ∷ []) before after → ChangedAt id before after
only_root before after id r stored there is only = record {
  many = only.many;
  places = only.places;
  others = λ n away. only.others n (All-cons (λ (m : ℕ). n ≢ m) r [] (λ same. not_top before id n stored there away (same ∙ is)) (All-nil (λ (m : ℕ). n ≢ m)));
}

-- a call at a phaser, and then one at its root
pub changed_then_root : (before mid after : List Stored) (id r : ℕ) → IsStored before → IsStored mid → id < length before → r ≡ top_at before id
    → ChangedAt id before mid → ChangedAt r mid after → ChangedAt id before after
changed_then_root before mid after id r stored stored_mid there is one two =
    let below = top_there before id stored there in
    let many = one.many in
    let within : r < length mid = omega (arith, below, is, many) in
    let kept : top_at mid r ≡ top_at before r = ap (λ (p : Place). get_or p.line (length p.line - 1) 0) (one.places r) in
    let top : top_at mid r ≡ r = kept ∙ ap (top_at before) is ∙ top-top before id stored there ∙ sym is in
    let line = root-line mid r stored_mid within top in
    record {
      many = two.many ∙ one.many;
      places = λ n. two.places n ∙ one.places n;
      others = λ n away.
          two.others n (subst (λ (l : List ℕ). All (λ (m : ℕ). n ≢ m) l) (sym line)
          (All-cons (λ (m : ℕ). n ≢ m) r [] (λ same. not_top before id n stored there away (same ∙ is)) (All-nil (λ (m : ℕ). n ≢ m))))
          ∙ one.others n away;
    }

-- nothing has changed
pub changed_nothing : (id : ℕ) (before after : List Stored) → after ≡ before → ChangedAt id before after
changed_nothing id before after is = grind arith

-- what was kept of a line, put back
pub restored_line : (line : List ℕ) (before after : List Stored) → ChangedOnly line before after → restored (map (kept_at before) line) after ≡ before
restored_line [] before after only =
    ext_get_or no_stored after before only.many (λ n here. only.others n (All-nil (λ (m : ℕ). n ≢ m)))
restored_line (id ∷ line) before after only =
    restored_line line before (with_kept (kept_at before id) after) (elim (cases_lt id (length after)) as (λ _. ChangedOnly line before (with_kept (kept_at before id) after)) [
      | inl there ↦
          let x : Stored = record (stored_at after id) { word = (stored_at before id).word; ends = (stored_at before id).ends } in
          let put = is_put after id x there refl in
          let own : x ≡ stored_at before id = ap (λ (p : Place). record {
            line = p.line;
            policy = p.policy;
            word = (stored_at before id).word;
            ends = (stored_at before id).ends;
          }) (only.places id) in
          record {
            many = put.many ∙ only.many;
            places = λ n. put.places n ∙ only.places n;
            others = λ n away. elim (cases_eq n id) as (λ _. stored_at (slice_set after id x) n ≡ stored_at before n) [
              | inl is ↦ subst (λ (m : ℕ). stored_at (slice_set after id x) m ≡ stored_at before m) (sym is) (put.own ∙ own)
              | inr other ↦ put.others n other ∙ only.others n (All-cons (λ (m : ℕ). n ≢ m) id line other away)
            ];
          }
      | inr past ↦
          let same : with_kept (kept_at before id) after ≡ after = set_past after id _ past in
          subst (ChangedOnly line before) (sym same) (record {
            many = only.many;
            places = only.places;
            others = λ n away. elim (cases_eq n id) as (λ _. stored_at after n ≡ stored_at before n) [
              | inl is ↦
                  let many = only.many in
                  get_or_past after n no_stored (omega (arith, is, past)) ∙ sym (get_or_past before n no_stored (omega (arith, is, past, many)))
              | inr other ↦ only.others n (All-cons (λ (m : ℕ). n ≢ m) id line other away)
            ];
          })
    ])

pub restored_call : (id : ℕ) (before after now : List Stored) (saved : List Kept) → now ≡ restored saved after → saved ≡ saved_of id before
    → ChangedAt id before after → now ≡ before
restored_call id before after now saved is kept changed = grind (arith, restored_line)

pub saved_restored : (id : ℕ) (before after : List Stored) → ChangedAt id before after → restored (saved_of id before) after ≡ before
saved_restored id before after changed = restored_line (stored_at before id).line before after changed

pub place_is : (node : Stored) (p : PhaserState) → node.line ≡ p.line → node.policy ≡ p.policy → place_in node ≡ place_of p
place_is node p line policy = grind arith

-- a new phaser at the end
pub record Pushes (now after : List Stored) (new : PhaserState) : Type 0 where
  pub shows : phasers_of after ≡ phasers_of now ++ new ∷ []
  pub stored : IsStored after

record IsNewest (after : List Stored) (node : Stored) : Type 0 where
  top : (kept_flat (stored_at after (top_of node))).ended ≡ false
  phase : (kept_flat node).phase ≡ (kept_flat (stored_at after (top_of node))).phase

newest : (parent : Option PhaserId) (parties : ℕ) (policy : Policy) (phase : ℕ) (now : List Stored) (node : Stored)
    → place_in node ≡ place_of (declared parent parties policy phase (phasers_of now))
    → kept_flat node ≡ (declared parent parties policy phase (phasers_of now)).flat
    → has_parent parent (phasers_of now) ≡ true → IsFreshAbove parent (phasers_of now) → IsStored now
    → IsNewest (now ++ node ∷ []) node
newest parent parties policy phase now node place word there fresh_above stored = grind (arith, last_of, get_or_push, length-shown, nat_tests, line_own, top_at, last-more, shown_at, top_there, get_or_append_left, flat_shown, present_live, present-phase)

-- a forest with one more phaser: the old ones stay, and so do their roots
still : (now : List Stored) (node : Stored) (k : ℕ) → IsStored now → k < length now
    → (stored_at (now ++ node ∷ []) k ≡ stored_at now k)
    × (stored_at (now ++ node ∷ []) (top_at (now ++ node ∷ []) k) ≡ stored_at now (top_at now k))
still now node k stored within = grind (arith, get_or_append_left, top_there)

still_shown : (now : List Stored) (node : Stored) (k : ℕ) → IsStored now → k < length now
    → phaser_at (phasers_of (now ++ node ∷ [])) k ≡ phaser_at (phasers_of now) k
still_shown now node k stored within = grind (arith, still, shown_at, length_push)

newest_shown : (now : List Stored) (node : Stored) (new : PhaserState) → IsNewest (now ++ node ∷ []) node
    → place_in node ≡ place_of new → kept_flat node ≡ new.flat → node.ends ≡ new.ends
    → phaser_at (phasers_of (now ++ node ∷ [])) (length now) ≡ phaser_at (phasers_of now ++ new ∷ []) (length now)
newest_shown now node new newest place word ends = grind (arith, shown_at, length_push, get_or_push, length-shown, present-now)

still_near : (now : List Stored) (node : Stored) → IsStored now → IsNewest (now ++ node ∷ []) node → IsNear (now ++ node ∷ [])
still_near now node stored newest k here = grind (arith, still, cases_lt, length_push, get_or_push, behind-self)

still_live : (now : List Stored) (node : Stored) → IsStored now → (kept_flat node).ended ≡ false → IsLive (now ++ node ∷ [])
still_live now node stored live k here alive = grind (arith, still, cases_lt, length_push, get_or_push)

pub pushed : (parent : Option PhaserId) (parties : ℕ) (policy : Policy) (phase : ℕ) (items now after : List Stored) (node : Stored) → items ≡ now
    → place_in node ≡ place_of (declared parent parties policy phase (phasers_of now))
    → kept_flat node ≡ (declared parent parties policy phase (phasers_of now)).flat → node.ends ≡ 0 → after ≡ items ++ node ∷ []
    → length now < 64 → has_parent parent (phasers_of now) ≡ true → IsFreshAbove parent (phasers_of now) → IsStored items
    → Pushes now after (declared parent parties policy phase (phasers_of now))
pushed parent parties policy phase items now after node shown_is place word none is few there fresh_above sound =
    let stored : IsStored now = subst IsStored shown_is sound in
    let more = now ++ node ∷ [] in
    let ps = phasers_of now in
    let new = declared parent parties policy phase ps in
    let all : after ≡ more = is ∙ ap (λ (ss : List Stored). ss ++ node ∷ []) shown_is in
    let newest_is = newest parent parties policy phase now node place word there fresh_above stored in
    let longer = length_push now node in
    let many = length-shown now in
    let many_more = length-shown more in
    let longer_ps = length_push ps new in
    let shows : phasers_of more ≡ ps ++ new ∷ [] =
    ext_get_or no_phaser (phasers_of more) (ps ++ new ∷ []) (omega (arith, longer, many, many_more, longer_ps)) (λ k here.
    elim (cases_lt k (length now)) as (λ _. phaser_at (phasers_of more) k ≡ phaser_at (ps ++ new ∷ []) k) [
      | inl within ↦ still_shown now node k stored within ∙ sym (get_or_append_left ps (new ∷ []) no_phaser k (there_shown now k within))
      | inr past ↦
          subst (λ (m : ℕ). phaser_at (phasers_of more) m ≡ phaser_at (ps ++ new ∷ []) m) (omega (arith, past, here, longer, many_more))
          (newest_shown now node new newest_is place word none)
    ]) in
    subst (λ (ss : List Stored). Pushes now ss new) (sym all) (record {
      shows = shows;
      stored = record {
        places = subst IsForest (sym shows) (forest_declared parent parties policy phase ps (omega (arith, few, many)) there stored.places);
        near = still_near now node stored newest_is;
        live = still_live now node stored (ap (λ (f : Flat). f.ended) word);
      };
    })
