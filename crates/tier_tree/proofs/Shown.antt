-- What a stored forest shows, after each change of one word.
use Rattle.std.proofs.Common.{inl, inr, ◌≡◌, ◌≢◌, ◌∙◌, ℕ, ◌+◌, ◌-◌, ◌<◌, ◌≤◌, ◌==◌, Bool, true, false, List, [], ◌∷◌, length, map, get_or, ap, refl, sym, subst, arith, if◌then◌else◌, rules, slice_set, length-set, get_or-set_same, get_or-set_other, ext_get_or}
use Rattle.std.proofs.lemmas.Bool.{cases_eq, Decides.nat_tests}
use Rattle.std.proofs.lemmas.List.{length-map, get_or-map, get_or_read, get_or_default}
use Rattle.std.proofs.lemmas.List.Elements.{All-head, All-tail, All-cons, All-nil}
use Rattle.packed_phaser.specs.Flat.{Flat, ComesLate, arrive, advance, renew, force, fresh, view_of}
use Rattle.packed_phaser.specs.Word.{record_of}
use Rattle.phase_number.specs.Phase.{next_phase}
use Rattle.tier_tree.specs.Forest.{PhaserState, no_phaser, phaser_at, flat_at, root_of, root_at, with_flat}
use Rattle.tier_tree.specs.PhaseEnd.{follow, in_step, terminated, after_phase_end}
use Rattle.tier_tree.specs.Sound.{Place, places_of}
use Rattle.tier_tree.specs.Stored.{Stored, no_stored, stored_at, kept_flat, top_of, present, shown, phasers_of, behind, IsNear, IsLive, IsStored, place_in, ChangedOnly}
use Rattle.tier_tree.proofs.Lines.{root_within, forest_kept, with_flat-places, turn-places, terminated-places}
use Rattle.tier_tree.proofs.{Turned.root-root, Stands.same-is, Stands.other-is}

-- 1. words beside that of their root

abbrev pub seen : Bool → ℕ → Flat → Flat
seen ended phase own = if ended then force (renew phase own) else (if own.phase == phase then own else renew phase own)

pub present_live : (top own : Flat) → (present top own).ended ≡ false → top.ended ≡ false
present_live top own live = grind arith

pub present-phase : (top own : Flat) → (present top own).phase ≡ top.phase
present-phase top own = grind (arith, nat_tests)

-- terminated with the root, where the own word isn't before it
pub present-ended : (top own : Flat) → (top.ended ≡ false → own.ended ≡ false) → (present top own).ended ≡ top.ended
present-ended top own live = grind arith

pub present-parties : (top own : Flat) → (present top own).parties ≡ own.parties
present-parties top own = grind arith

-- in the root's phase a word stands as it is
pub present-now : (top own : Flat) → top.ended ≡ false → own.phase ≡ top.phase → present top own ≡ own
present-now top own live same = grind (arith, same-is)

-- in another phase all its parties are to arrive
pub present-late : (top own : Flat) → top.ended ≡ false → own.phase ≢ top.phase → present top own ≡ renew top.phase own
present-late top own live other = grind arith

-- only the root's phase and termination matter
pub present-top : (top other own : Flat) → top.phase ≡ other.phase → top.ended ≡ other.ended → present top own ≡ present other own
present-top top other own phase ended = grind arith

-- 2. a forest, read

abbrev pub top_at : List Stored → ℕ → ℕ
top_at forest id = top_of (stored_at forest id)

pub shown_at : (forest : List Stored) (id : ℕ) → id < length forest → phaser_at (phasers_of forest) id ≡ shown forest (stored_at forest id)
shown_at forest id there = get_or-map (shown forest) forest id no_stored no_phaser there

pub length-shown : (forest : List Stored) → length (phasers_of forest) ≡ length forest
length-shown forest = length-map forest (shown forest)

pub flat_shown : (forest : List Stored) (id : ℕ) → id < length forest
    → flat_at (phasers_of forest) id ≡ present (kept_flat (stored_at forest (top_at forest id))) (kept_flat (stored_at forest id))
flat_shown forest id there = ap (λ (p : PhaserState). p.flat) (shown_at forest id there)

pub root_shown : (forest : List Stored) (id : ℕ) → id < length forest → root_at (phasers_of forest) id ≡ top_at forest id
root_shown forest id there = ap root_of (shown_at forest id there)

pub top_there : (forest : List Stored) (id : ℕ) → IsStored forest → id < length forest → top_at forest id < length forest
top_there forest id stored there =
    let many = length-shown forest in
    let within = root_within (phasers_of forest) id stored.places (omega (arith, many, there)) in
    grind (arith, root_shown)

pub top-top : (forest : List Stored) (id : ℕ) → IsStored forest → id < length forest → top_at forest (top_at forest id) ≡ top_at forest id
top-top forest id stored there =
    let many = length-shown forest in
    let up = (root-root (phasers_of forest) (phaser_at (phasers_of forest) id).line id stored.places (omega (arith, many, there)) refl).0 in
    grind (arith, root_shown, top_there)

-- 3. a forest in which one phaser changes and keeps its place

pub record IsPut (forest : List Stored) (i : ℕ) (x : Stored) (now : List Stored) : Type 0 where
  pub own : stored_at now i ≡ x
  pub others : (n : ℕ) → n ≢ i → stored_at now n ≡ stored_at forest n
  pub many : length now ≡ length forest
  pub places : (n : ℕ) → place_in (stored_at now n) ≡ place_in (stored_at forest n)

pub is_put : (forest : List Stored) (i : ℕ) (x : Stored) → i < length forest → place_in x ≡ place_in (stored_at forest i)
    → IsPut forest i x (slice_set forest i x)
is_put forest i x there same = grind (arith, get_or-set_same, get_or-set_other, length-set, cases_eq)

pub only_put : (forest : List Stored) (i : ℕ) (x : Stored) (now : List Stored) → IsPut forest i x now → ChangedOnly (i ∷ []) forest now
only_put forest i x now put = grind (arith, All-head)

pub top-put : (forest : List Stored) (i : ℕ) (x : Stored) (now : List Stored) → IsPut forest i x now → (n : ℕ) → top_at now n ≡ top_at forest n
top-put forest i x now put n = ap (λ (p : Place). get_or p.line (length p.line - 1) 0) (put.places n)

pub shown_put : (forest : List Stored) (i : ℕ) (x : Stored) (now : List Stored) → IsPut forest i x now → (n : ℕ) → n < length forest
    → phaser_at (phasers_of now) n ≡ record {
      line = (stored_at forest n).line;
      policy = (stored_at forest n).policy;
      flat = present (kept_flat (stored_at now (top_at forest n))) (kept_flat (stored_at now n));
      ends = (stored_at now n).ends;
    }
shown_put forest i x now put n there = grind (arith, shown_at)

pub behind-self : (p : ℕ) → behind p p ≡ 0
behind-self p = grind (arith, nat_tests)

-- 4. another word of the present phase

record IsSteadyPut (forest : List Stored) (i : ℕ) (w : ℕ) (now : List Stored) : Type 0 where
  put : IsPut forest i (record (stored_at forest i) { word = w }) now
  top : (n : ℕ) → n < length forest
      → ((kept_flat (stored_at now (top_at forest n))).phase ≡ (kept_flat (stored_at forest (top_at forest n))).phase)
      × ((kept_flat (stored_at now (top_at forest n))).ended ≡ (kept_flat (stored_at forest (top_at forest n))).ended)
  live : (kept_flat (stored_at forest (top_at forest i))).ended ≡ false
  phase : (record_of w).phase ≡ (kept_flat (stored_at forest (top_at forest i))).phase
  own : (record_of w).ended ≡ false

steady_put : (forest : List Stored) (i w : ℕ) → IsStored forest → i < length forest
    → (record_of w).phase ≡ (flat_at (phasers_of forest) i).phase → (flat_at (phasers_of forest) i).ended ≡ false → (record_of w).ended ≡ false
    → IsSteadyPut forest i w (slice_set forest i (record (stored_at forest i) { word = w }))
steady_put forest i w stored there phase before live =
    let now = slice_set forest i (record (stored_at forest i) { word = w }) in
    let put = is_put forest i (record (stored_at forest i) { word = w }) there refl in
    let top = kept_flat (stored_at forest (top_at forest i)) in
    let own = kept_flat (stored_at forest i) in
    let is = flat_shown forest i there in
    let live_top : top.ended ≡ false = present_live top own (ap (λ (f : Flat). f.ended) (sym is) ∙ before) in
    let same : (record_of w).phase ≡ top.phase = phase ∙ ap (λ (f : Flat). f.phase) is ∙ present-phase top own in
    record {
      put = put;
      top = λ n within. elim (cases_eq (top_at forest n) i) as (λ _.
          ((kept_flat (stored_at now (top_at forest n))).phase ≡ (kept_flat (stored_at forest (top_at forest n))).phase)
          × ((kept_flat (stored_at now (top_at forest n))).ended ≡ (kept_flat (stored_at forest (top_at forest n))).ended)) [
            | inl own_top ↦
                let up : top_at forest i ≡ i = ap (top_at forest) (sym own_top) ∙ top-top forest n stored within ∙ own_top in
                let new : kept_flat (stored_at now (top_at forest n)) ≡ record_of w =
                ap (λ (m : ℕ). kept_flat (stored_at now m)) own_top ∙ ap kept_flat put.own in
                let old : kept_flat (stored_at forest (top_at forest n)) ≡ top =
                ap (λ (m : ℕ). kept_flat (stored_at forest m)) (own_top ∙ sym up) in (
                  ap (λ (f : Flat). f.phase) new ∙ same ∙ sym (ap (λ (f : Flat). f.phase) old),
                  ap (λ (f : Flat). f.ended) new ∙ live ∙ sym live_top ∙ sym (ap (λ (f : Flat). f.ended) old),
                )
            | inr other ↦
                let kept = ap kept_flat (put.others (top_at forest n) other) in
                (ap (λ (f : Flat). f.phase) kept, ap (λ (f : Flat). f.ended) kept)
          ];
      live = live_top;
      phase = same;
      own = live;
    }

put_own : (forest : List Stored) (i w : ℕ) (now : List Stored) → i < length forest → IsSteadyPut forest i w now
    → phaser_at (phasers_of now) i ≡ record (phaser_at (phasers_of forest) i) { flat = record_of w }
put_own forest i w now there steady = grind (arith, shown_put, shown_at, present-top, present-now)

put_others : (forest : List Stored) (i w : ℕ) (now : List Stored) (n : ℕ) → n < length forest → n ≢ i → IsSteadyPut forest i w now
    → phaser_at (phasers_of now) n ≡ phaser_at (phasers_of forest) n
put_others forest i w now n there other steady = grind (arith, shown_put, shown_at, present-top)

put_shows : (forest : List Stored) (i w : ℕ) (now : List Stored) → IsStored forest → i < length forest → IsSteadyPut forest i w now
    → phasers_of now ≡ with_flat (phasers_of forest) i (record_of w)
put_shows forest i w now stored there steady =
    let ps = phasers_of forest in
    let new : PhaserState = record (phaser_at ps i) { flat = record_of w } in
    let many_now = length-shown now ∙ steady.put.many in
    let many_ps = length-shown forest in
    ext_get_or no_phaser (phasers_of now) (slice_set ps i new) (many_now ∙ sym (length-set ps i new ∙ many_ps)) (λ n here.
    elim (cases_eq n i) as (λ _. phaser_at (phasers_of now) n ≡ phaser_at (slice_set ps i new) n) [
      | inl same ↦
          subst (λ (m : ℕ). phaser_at (phasers_of now) m ≡ phaser_at (slice_set ps i new) m) (sym same)
          (put_own forest i w now there steady ∙ sym (get_or-set_same ps i new no_phaser (omega (arith, many_ps, there))))
      | inr other ↦
          put_others forest i w now n (omega (arith, many_now, here)) other steady ∙ sym (get_or-set_other ps i n new no_phaser other)
    ])

put_near : (forest : List Stored) (i w : ℕ) (now : List Stored) → IsStored forest → i < length forest → IsSteadyPut forest i w now → IsNear now
put_near forest i w now stored there steady n here =
    let put = steady.put in
    let many = put.many in
    let within : n < length forest = omega (arith, many, here) in
    let near = stored.near n within in
    let up = top-put forest i (record (stored_at forest i) { word = w }) now put n in
    let top = steady.top n within in
    let tops : (kept_flat (stored_at now (top_at now n))).phase ≡ (kept_flat (stored_at forest (top_at forest n))).phase =
    ap (λ (m : ℕ). (kept_flat (stored_at now m)).phase) up ∙ top.0 in
    let ends : (stored_at now (top_at now n)).ends ≡ (stored_at forest (top_at forest n)).ends =
    ap (λ (m : ℕ). (stored_at now m).ends) up ∙ elim (cases_eq (top_at forest n) i) as (λ _. (stored_at now (top_at forest n)).ends ≡ (stored_at forest (top_at forest n)).ends) [
      | inl is ↦ subst (λ (m : ℕ). (stored_at now m).ends ≡ (stored_at forest m).ends) (sym is) (ap (λ (s : Stored). s.ends) put.own)
      | inr other ↦ ap (λ (s : Stored). s.ends) (put.others (top_at forest n) other)
    ] in
    elim (cases_eq n i) as (λ _. behind (kept_flat (stored_at now n)).phase (kept_flat (stored_at now (top_at now n))).phase ≤ (stored_at now (top_at now n)).ends) [
      | inl is ↦
          let own : (kept_flat (stored_at now n)).phase ≡ (kept_flat (stored_at now (top_at now n))).phase =
          ap (λ (m : ℕ). (kept_flat (stored_at now m)).phase) is ∙ ap (λ (s : Stored). (kept_flat s).phase) put.own ∙ steady.phase
          ∙ ap (λ (m : ℕ). (kept_flat (stored_at forest (top_at forest m))).phase) (sym is) ∙ sym tops in
          let none : behind (kept_flat (stored_at now n)).phase (kept_flat (stored_at now (top_at now n))).phase ≡ 0 =
          ap (λ (p : ℕ). behind p (kept_flat (stored_at now (top_at now n))).phase) own ∙ behind-self _ in
          omega (arith, none)
      | inr other ↦
          let same : behind (kept_flat (stored_at now n)).phase (kept_flat (stored_at now (top_at now n))).phase
          ≡ behind (kept_flat (stored_at forest n)).phase (kept_flat (stored_at forest (top_at forest n))).phase =
          ap (λ (s : Stored). behind (kept_flat s).phase (kept_flat (stored_at now (top_at now n))).phase) (put.others n other)
          ∙ ap (λ (p : ℕ). behind (kept_flat (stored_at forest n)).phase p) tops in
          omega (arith, near, same, ends)
    ]

put_live : (forest : List Stored) (i w : ℕ) (now : List Stored) → IsStored forest → i < length forest → IsSteadyPut forest i w now → IsLive now
put_live forest i w now stored there steady n here alive = grind (arith, top-put, cases_eq)

pub record Puts (forest : List Stored) (i w : ℕ) (now : List Stored) : Type 0 where
  pub shows : phasers_of now ≡ with_flat (phasers_of forest) i (record_of w)
  pub stored : IsStored now
  pub only : ChangedOnly (i ∷ []) forest now

pub puts : (forest : List Stored) (i w : ℕ) (now : List Stored) → now ≡ slice_set forest i (record (stored_at forest i) { word = w })
    → IsStored forest → i < length forest
    → (record_of w).phase ≡ (flat_at (phasers_of forest) i).phase → (flat_at (phasers_of forest) i).ended ≡ false → (record_of w).ended ≡ false
    → Puts forest i w now
puts forest i w now is stored there phase before live =
    let steady : IsSteadyPut forest i w now = subst (IsSteadyPut forest i w) (sym is) (steady_put forest i w stored there phase before live) in
    let shows = put_shows forest i w now stored there steady in
    record {
      shows = shows;
      stored = record {
        places = forest_kept (phasers_of forest) (phasers_of now) (ap places_of shows ∙ with_flat-places (phasers_of forest) i (record_of w)) stored.places;
        near = put_near forest i w now stored there steady;
        live = put_live forest i w now stored there steady;
      };
      only = only_put forest i (record (stored_at forest i) { word = w }) now steady.put;
    }

-- 5. what the code reads of a slice

pub top_read : (forest : List Stored) (i r : ℕ) (own : Stored) → IsStored forest → i < length forest → own ≡ get_or forest i own → r ≡ top_of own
    → r < length forest
top_read forest i r own stored there read is = grind (arith, get_or_read, top_there)

pub top_word_read : (forest : List Stored) (i r w : ℕ) (own top : Stored) → IsStored forest → i < length forest → own ≡ get_or forest i own → r ≡ top_of own
    → top ≡ get_or forest r top → w ≡ top.word → w ≡ (stored_at forest (root_at (phasers_of forest) i)).word
top_word_read forest i r w own top stored there read_own is_top read_top is_w = grind (arith, get_or_read, root_shown, top_read)

-- the root of a phaser that isn't terminated isn't
pub live_top : (forest : List Stored) (i top : ℕ) (f : Flat) → i < length forest → top ≡ (stored_at forest (root_at (phasers_of forest) i)).word
    → f ≡ flat_at (phasers_of forest) i → f.ended ≡ false → (record_of top).ended ≡ false
live_top forest i top f there is found live = grind (arith, root_shown, present_live, flat_shown)

-- a word below its root's
pub below_read : (forest : List Stored) (i top own_word : ℕ) (own : Stored) (f : Flat) → IsStored forest → i < length forest → own ≡ get_or forest i own
    → own_word ≡ own.word → top ≡ (stored_at forest (root_at (phasers_of forest) i)).word
    → (((record_of top).ended ≡ false → (record_of own_word).ended ≡ false) → f ≡ present (record_of top) (record_of own_word)) → f ≡ flat_at (phasers_of forest) i
below_read forest i top own_word own f stored there read is_own is_top is = grind (arith, get_or_read, root_shown, flat_shown)

-- an arrival below a terminated root
comes_late : (leave : Bool) (top own : Flat) → top.ended ≡ true → ComesLate (view_of top) ≡ arrive leave (present top own)
comes_late leave top own ended = grind arith

pub late_read : (leave : Bool) (forest : List Stored) (i top own_word : ℕ) (own : Stored) → IsStored forest → i < length forest → own ≡ get_or forest i own
    → own_word ≡ own.word → top ≡ (stored_at forest (root_at (phasers_of forest) i)).word → (record_of top).ended ≡ true
    → ComesLate (view_of (record_of top)) ≡ arrive leave (flat_at (phasers_of forest) i)
late_read leave forest i top own_word own stored there read is_own is_top ended =
    comes_late leave (record_of top) (record_of own_word) ended
    ∙ ap (arrive leave) (below_read forest i top own_word own (present (record_of top) (record_of own_word)) stored there read is_own is_top (λ _. refl))

-- the phase that a phaser shows is that of its root
pub view_read : (forest : List Stored) (i top : ℕ) → IsStored forest → i < length forest → top ≡ (stored_at forest (root_at (phasers_of forest) i)).word
    → view_of (record_of top) ≡ view_of (flat_at (phasers_of forest) i)
view_read forest i top stored there is = grind (arith, root_shown, flat_shown)

pub puts_read : (forest : List Stored) (i w : ℕ) (d x : Stored) → x ≡ record (get_or forest i d) { word = w }
    → IsStored forest → i < length forest
    → (record_of w).phase ≡ (flat_at (phasers_of forest) i).phase → (flat_at (phasers_of forest) i).ended ≡ false → (record_of w).ended ≡ false
    → Puts forest i w (slice_set forest i x)
puts_read forest i w d x is stored there phase before live =
    puts forest i w (slice_set forest i x)
    (ap (slice_set forest i) (is ∙ ap (λ (s : Stored). record s { word = w }) (get_or_default forest i d no_stored there)))
    stored there phase before live

-- 6. the root's phase ends

same_true : (n : ℕ) → (n == n) ≡ true
same_true n = grind (arith, nat_tests)

present-self : (ends : Bool) (f : Flat) → present (advance ends f) (advance ends f) ≡ advance ends f
present-self true f = refl
present-self false f = ap (λ (t : Bool). if t then advance false f else renew (advance false f).phase (advance false f)) (same_true (next_phase f.phase))

-- a phase end puts a word one phase further behind at most
behind_next : (own top ends : ℕ) → behind own top ≤ ends → behind own (next_phase top) ≤ ends + 1
behind_next own top ends near = grind (arith, nat_tests)

-- a word below a root whose phase ends
present_turned : (ends : Bool) (top own : Flat) (count : ℕ) → behind own.phase top.phase ≤ count → count < 2147483647
    → present (advance ends top) own ≡ follow (advance ends top).phase ends (present top own)
present_turned true top own count near few = ap (λ (n : ℕ). force (fresh (next_phase top.phase) n)) (sym (present-parties top own))
present_turned false top own count near few = grind (arith, present-parties, present-late)

-- a terminated root
present_forced : (top own : Flat) → present (force top) own ≡ force (present top own)
present_forced top own = grind (arith, nat_tests)

-- the root's word changes to one that all others of the tree are read beside
record IsTopPut (forest : List Stored) (root w count : ℕ) (now : List Stored) : Type 0 where
  put : IsPut forest root (record (stored_at forest root) { word = w; ends = count }) now
  top : top_at forest root ≡ root

top_put : (forest : List Stored) (root w count : ℕ) → IsStored forest → root < length forest → root_at (phasers_of forest) root ≡ root
    → IsTopPut forest root w count (slice_set forest root (record (stored_at forest root) { word = w; ends = count }))
top_put forest root w count stored there is_root = search (rules, is_put, root_shown)

-- a phaser of the root's tree makes the step
abbrev moved_by : ℕ → (Flat → Flat) → PhaserState → PhaserState
moved_by root step p = if root_of p == root then record p { flat = step p.flat } else p

-- what another phaser shows then
top_shows : (forest : List Stored) (root w count : ℕ) (now : List Stored) → IsTopPut forest root w count now
    → (n : ℕ) → n < length forest → n ≢ root
    → phaser_at (phasers_of now) n ≡ record (phaser_at (phasers_of forest) n) {
      flat = (if top_at forest n == root then present (record_of w) (kept_flat (stored_at forest n)) else flat_at (phasers_of forest) n);
    }
top_shows forest root w count now changed n there other = grind (arith, shown_put, cases_eq, same-is, flat_shown, other-is, shown_at)

-- what a phaser below the root showed
shown_under : (forest : List Stored) (root n : ℕ) → n < length forest → top_at forest n ≡ root
    → flat_at (phasers_of forest) n ≡ present (kept_flat (stored_at forest root)) (kept_flat (stored_at forest n))
shown_under forest root n there under = grind (arith, flat_shown)

-- what the root shows then
top_own : (forest : List Stored) (root w count : ℕ) (now : List Stored) → IsTopPut forest root w count now → root < length forest
    → phaser_at (phasers_of now) root ≡ record (phaser_at (phasers_of forest) root) { flat = present (record_of w) (record_of w); ends = count }
top_own forest root w count now changed there = grind (arith, shown_put, shown_at)

-- and what the whole forest shows, if the root's new word moves each phaser of its tree by one step
moved : (forest : List Stored) (root w count : ℕ) (now : List Stored) (step : Flat → Flat) (after : List PhaserState)
    → IsTopPut forest root w count now → length after ≡ length forest
    → ((n : ℕ) → n < length forest → top_at forest n ≡ root
    → present (record_of w) (kept_flat (stored_at forest n)) ≡ step (flat_at (phasers_of forest) n))
    → phaser_at (phasers_of now) root ≡ phaser_at after root
    → ((n : ℕ) → n < length forest → n ≢ root → phaser_at after n ≡ moved_by root step (phaser_at (phasers_of forest) n))
    → phasers_of now ≡ after
moved forest root w count now step after changed many below own others =
    let ps = phasers_of forest in
    let many_now = length-shown now ∙ changed.put.many in
    ext_get_or no_phaser (phasers_of now) after (many_now ∙ sym many) (λ n here.
    let there : n < length forest = omega (arith, many_now, here) in
    let root_is : root_of (phaser_at ps n) ≡ top_at forest n = root_shown forest n there in
    elim (cases_eq n root) as (λ _. phaser_at (phasers_of now) n ≡ phaser_at after n) [
      | inl same ↦ subst (λ (m : ℕ). phaser_at (phasers_of now) m ≡ phaser_at after m) (sym same) own
      | inr other ↦
          top_shows forest root w count now changed n there other
          ∙ elim (cases_eq (top_at forest n) root) as (λ _. record (phaser_at ps n) {
            flat = (if top_at forest n == root then present (record_of w) (kept_flat (stored_at forest n)) else flat_at ps n);
          } ≡ moved_by root step (phaser_at ps n)) [
            | inl under ↦
                let here_is : (top_at forest n == root) ≡ true = ap (λ (m : ℕ). m == root) under ∙ same-is root in
                let is : (root_of (phaser_at ps n) == root) ≡ true = ap (λ (m : ℕ). m == root) (root_is ∙ under) ∙ same-is root in
                rw (here_is, is, below n there under) refl
            | inr apart ↦
                let is : (root_of (phaser_at ps n) == root) ≡ false = other-is (root_of (phaser_at ps n)) root (λ same. apart (sym root_is ∙ same)) in
                rw (other-is (top_at forest n) root apart, is) refl
          ]
          ∙ sym (others n there other)
    ])

-- after the end of a phase
turned_shows : (forest : List Stored) (root w : ℕ) (ends : Bool) (now : List Stored) → IsStored forest → root < length forest
    → root_at (phasers_of forest) root ≡ root → (flat_at (phasers_of forest) root).ended ≡ false
    → (stored_at forest root).ends < 2147483647
    → record_of w ≡ advance ends (flat_at (phasers_of forest) root)
    → IsTopPut forest root w ((stored_at forest root).ends + 1) now
    → phasers_of now ≡ after_phase_end root ends (phasers_of forest)
turned_shows forest root w ends now stored there is_root live few is changed =
    let ps = phasers_of forest in
    let flat = advance ends (flat_at ps root) in
    let all = map (in_step root flat.phase flat.ended) ps in
    let new : PhaserState = record (phaser_at ps root) { flat = flat; ends = (phaser_at ps root).ends + 1 } in
    let top = kept_flat (stored_at forest root) in
    let many : length ps ≡ length forest = length-shown forest in
    let many_all : length all ≡ length ps = length-map ps (in_step root flat.phase flat.ended) in
    let shown_top = shown_under forest root root there changed.top in
    let own_flat : flat_at ps root ≡ top =
    shown_top ∙ present-now top top (present_live top top (ap (λ (f : Flat). f.ended) (sym shown_top) ∙ live)) refl in
    moved forest root w ((stored_at forest root).ends + 1) now (follow flat.phase flat.ended) (slice_set all root new) changed
    (length-set all root new ∙ many_all ∙ many)
    (λ n within under.
    let near = subst (λ (m : ℕ). behind (kept_flat (stored_at forest n)).phase (kept_flat (stored_at forest m)).phase ≤ (stored_at forest m).ends) under (stored.near n within) in
    ap (λ (f : Flat). present f (kept_flat (stored_at forest n))) (is ∙ ap (advance ends) own_flat)
    ∙ present_turned ends top (kept_flat (stored_at forest n)) (stored_at forest root).ends near few
    ∙ ap (follow (advance ends top).phase ends) (sym (shown_under forest root n within under))
    ∙ ap (λ (f : Flat). follow (advance ends f).phase ends (flat_at ps n)) (sym own_flat))
    (top_own forest root w ((stored_at forest root).ends + 1) now changed there
    ∙ ap (λ (f : Flat). record (phaser_at ps root) { flat = f; ends = (stored_at forest root).ends + 1 })
    (ap (λ (f : Flat). present f f) is ∙ present-self ends (flat_at ps root))
    ∙ ap (λ (e : ℕ). record (phaser_at ps root) { flat = flat; ends = e + 1 }) (sym (ap (λ (p : PhaserState). p.ends) (shown_at forest root there)))
    ∙ sym (get_or-set_same all root new no_phaser (omega (arith, many, many_all, there))))
    (λ n within other. get_or-set_other all root n new no_phaser other
    ∙ get_or-map (in_step root flat.phase flat.ended) ps n no_phaser no_phaser (omega (arith, many, within)))

-- after a termination
forced_shows : (forest : List Stored) (root w : ℕ) (now : List Stored) → IsStored forest → root < length forest
    → record_of w ≡ force (kept_flat (stored_at forest root))
    → IsTopPut forest root w (stored_at forest root).ends now
    → phasers_of now ≡ map (terminated root) (phasers_of forest)
forced_shows forest root w now stored there is changed =
    let ps = phasers_of forest in
    let top = kept_flat (stored_at forest root) in
    let many : length ps ≡ length forest = length-shown forest in
    let at : (n : ℕ) → n < length forest → phaser_at (map (terminated root) ps) n ≡ terminated root (phaser_at ps n) =
    λ n within. get_or-map (terminated root) ps n no_phaser no_phaser (omega (arith, many, within)) in
    let below : (n : ℕ) → n < length forest → top_at forest n ≡ root → present (record_of w) (kept_flat (stored_at forest n)) ≡ force (flat_at ps n) =
    λ n within under. ap (λ (f : Flat). present f (kept_flat (stored_at forest n))) is ∙ present_forced top (kept_flat (stored_at forest n))
    ∙ ap force (sym (shown_under forest root n within under)) in
    let root_is : (root_of (phaser_at ps root) == root) ≡ true = ap (λ (m : ℕ). m == root) (root_shown forest root there ∙ changed.top) ∙ same-is root in
    moved forest root w (stored_at forest root).ends now force (map (terminated root) ps) changed
    (length-map ps (terminated root) ∙ many) below
    (top_own forest root w (stored_at forest root).ends now changed there
    ∙ ap (λ (f : Flat). record (phaser_at ps root) { flat = f; ends = (stored_at forest root).ends })
    (ap (λ (f : Flat). present f f) is ∙ present_forced top top ∙ ap force (sym (shown_under forest root root there changed.top)))
    ∙ rw (root_is, ap (λ (p : PhaserState). p.ends) (shown_at forest root there)) refl
    ∙ sym (at root there))
    (λ n within _. at n within)

-- no word is too far behind then
top_near : (forest : List Stored) (root w count : ℕ) (now : List Stored) → IsStored forest → root < length forest
    → IsTopPut forest root w count now
    → ((p : ℕ) → behind p (kept_flat (stored_at forest root)).phase ≤ (stored_at forest root).ends → behind p (record_of w).phase ≤ count)
    → IsNear now
top_near forest root w count now stored there changed step n here = grind (arith, top-put, cases_eq, behind-self)

-- nor is a word terminated before the root's
top_live : (forest : List Stored) (root w count : ℕ) (now : List Stored) → IsStored forest → IsTopPut forest root w count now
    → ((record_of w).ended ≡ false → (kept_flat (stored_at forest root)).ended ≡ false) → IsLive now
top_live forest root w count now stored changed step n here alive = grind (arith, top-put, cases_eq)

pub record Changes (root : ℕ) (forest now : List Stored) (after : List PhaserState) : Type 0 where
  pub shows : phasers_of now ≡ after
  pub stored : IsStored now
  pub only : ChangedOnly (root ∷ []) forest now

pub turns : (forest : List Stored) (root w : ℕ) (ends : Bool) (d x : Stored) → x ≡ record (get_or forest root d) { word = w; ends = (get_or forest root d).ends + 1 }
    → IsStored forest → root < length forest
    → root_at (phasers_of forest) root ≡ root → (flat_at (phasers_of forest) root).ended ≡ false
    → (phaser_at (phasers_of forest) root).ends < 2147483647
    → record_of w ≡ advance ends (flat_at (phasers_of forest) root)
    → Changes root forest (slice_set forest root x) (after_phase_end root ends (phasers_of forest))
turns forest root w ends d x is stored there is_root live few is_word =
    let new : Stored = record (stored_at forest root) { word = w; ends = (stored_at forest root).ends + 1 } in
    let now = slice_set forest root x in
    let now_is : now ≡ slice_set forest root new =
    ap (slice_set forest root) (is ∙ ap (λ (s : Stored). record s { word = w; ends = s.ends + 1 }) (get_or_default forest root d no_stored there)) in
    let changed : IsTopPut forest root w ((stored_at forest root).ends + 1) now =
    subst (IsTopPut forest root w ((stored_at forest root).ends + 1)) (sym now_is) (top_put forest root w ((stored_at forest root).ends + 1) stored there is_root) in
    let count : (phaser_at (phasers_of forest) root).ends ≡ (stored_at forest root).ends = ap (λ (p : PhaserState). p.ends) (shown_at forest root there) in
    let few_stored : (stored_at forest root).ends < 2147483647 = omega (arith, count, few) in
    let shows = turned_shows forest root w ends now stored there is_root live few_stored is_word changed in
    let phase_is : (record_of w).phase ≡ next_phase (kept_flat (stored_at forest root)).phase =
    ap (λ (f : Flat). f.phase) is_word ∙ ap (λ (f : Flat). next_phase f.phase) (flat_shown forest root there)
    ∙ ap next_phase (present-phase (kept_flat (stored_at forest (top_at forest root))) (kept_flat (stored_at forest root)))
    ∙ ap (λ (m : ℕ). next_phase (kept_flat (stored_at forest m)).phase) changed.top in
    let live_root : (kept_flat (stored_at forest root)).ended ≡ false = ap (λ (m : ℕ). (kept_flat (stored_at forest m)).ended) (sym changed.top)
    ∙ present_live (kept_flat (stored_at forest (top_at forest root))) (kept_flat (stored_at forest root))
    (ap (λ (f : Flat). f.ended) (sym (flat_shown forest root there)) ∙ live) in
    record {
      shows = shows;
      stored = record {
        places = forest_kept (phasers_of forest) (phasers_of now) (ap places_of shows ∙ turn-places root ends (phasers_of forest)) stored.places;
        near = top_near forest root w ((stored_at forest root).ends + 1) now stored there changed (λ p near.
            subst (λ (q : ℕ). behind p q ≤ (stored_at forest root).ends + 1) (sym phase_is)
            (behind_next p (kept_flat (stored_at forest root)).phase (stored_at forest root).ends near));
        live = top_live forest root w ((stored_at forest root).ends + 1) now stored changed (λ _. live_root);
      };
      only = only_put forest root new now changed.put;
    }

pub forces : (forest : List Stored) (root w : ℕ) (d x : Stored) → x ≡ record (get_or forest root d) { word = w }
    → IsStored forest → root < length forest → root_at (phasers_of forest) root ≡ root
    → record_of w ≡ force (kept_flat (stored_at forest root))
    → Changes root forest (slice_set forest root x) (map (terminated root) (phasers_of forest))
forces forest root w d x is stored there is_root is_word =
    let new : Stored = record (stored_at forest root) { word = w; ends = (stored_at forest root).ends } in
    let now = slice_set forest root x in
    let now_is : now ≡ slice_set forest root new =
    ap (slice_set forest root) (is ∙ ap (λ (s : Stored). record s { word = w }) (get_or_default forest root d no_stored there)) in
    let changed : IsTopPut forest root w (stored_at forest root).ends now =
    subst (IsTopPut forest root w (stored_at forest root).ends) (sym now_is) (top_put forest root w (stored_at forest root).ends stored there is_root) in
    let shows = forced_shows forest root w now stored there is_word changed in
    grind (arith, forest_kept, terminated-places, top_near, top_live, only_put)

-- the word that is read of a slice
pub forces_read : (forest : List Stored) (root w own : ℕ) (d : Stored) → root < length forest → own ≡ (get_or forest root d).word
    → record_of w ≡ force (record_of own) → record_of w ≡ force (kept_flat (stored_at forest root))
forces_read forest root w own d there is is_word = grind (arith, get_or_default)

-- 7. changes of some phasers, one after the other

pub only_same : (line : List ℕ) (forest : List Stored) → ChangedOnly line forest forest
only_same line forest = record { many = refl; places = (λ id. refl); others = (λ id away. refl) }

pub only_more : (line above : List ℕ) (i : ℕ) (before mid after : List Stored) → line ≡ i ∷ above → ChangedOnly above before mid
    → ChangedOnly (i ∷ []) mid after → ChangedOnly line before after
only_more line above i before mid after is one two =
    subst (λ (l : List ℕ). ChangedOnly l before after) (sym is) (record {
      many = two.many ∙ one.many;
      places = (λ id. two.places id ∙ one.places id);
      others = (λ id away.
          two.others id (All-cons (λ (n : ℕ). id ≢ n) i [] (All-head (λ (n : ℕ). id ≢ n) i above away) (All-nil (λ (n : ℕ). id ≢ n)))
          ∙ one.others id (All-tail (λ (n : ℕ). id ≢ n) i above away));
    })
