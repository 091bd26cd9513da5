-- A declaration keeps the counts of who registered and arrived where.
use Rattle.std.proofs.Common.{inl, inr, ◌≡◌, ◌∙◌, ℕ, suc, ◌+◌, ◌<◌, ◌==◌, Bool, true, false, List, [], ◌∷◌, ◌++◌, length, ap, refl, sym, subst, arith, if◌then◌else◌, ◌&&◌, ◌||◌, not, All, Option, Some, None}
use Rattle.std.proofs.lemmas.Bool.{cases_eq, cases_lt, Decides.nat_tests}
use Rattle.std.proofs.lemmas.List.{get_or_append_left, get_or_push, length_push, Elements.All-head, Elements.All-tail}
use Rattle.std.specs.List.{list_any}
use Rattle.packed_phaser.specs.{declared.policy.Policy.Policy, Flat.Flat, Flat.fresh, Flat.unarrived_of, Flat.is_empty}
use Rattle.tier_tree.specs.{declared.id.PhaserId.PhaserId, Sound.places_of, Sound.IsForest}
use Rattle.tier_tree.specs.Forest.{PhaserState, no_phaser, phaser_at, flat_at, root_at, root_of}
use Rattle.tier_tree.specs.Registration.{Join, joins_along, joined, is_overfull, is_turned}
use Rattle.tier_tree.specs.Declaration.{declared, joins_above, has_parent, is_root, IsFreshAbove, IsFreshTree, IsFresh}
use Rattle.tier_tree.specs.Origin.{Origin, is_under, children, has_joined, is_awaited, IsTallied, IsSteady, AreTallied, declared_at}
use Rattle.tier_tree.proofs.Lines.{length-places, line_within, forest_declared, joined-places, root_within}
use Rattle.tier_tree.proofs.{Safe.line_own, Safe.root-parent, Stands.root-same, Stands.same-is, Stands.other-is}
use Rattle.tier_tree.proofs.Balance.{bit, IsOff, IsGood, Changes, AllGood, next-parent}
use Rattle.tier_tree.proofs.{Turned.child-tree, Turned.root-root, Joined.join-changes}

add-bit : (b : Bool) → (if b then 1 else 0) ≡ bit b
add-bit true = refl
add-bit false = refl

-- one more phaser is one more child, or none
children-push : (test : Flat → Bool) (id : ℕ) (phasers : List PhaserState) (new : PhaserState)
    → children test id (phasers ++ new ∷ []) ≡ children test id phasers + bit (is_under id new.line && test new.flat)
children-push test id [] new = let one = add-bit (is_under id new.line && test new.flat) in omega (arith, one)
children-push test id (p ∷ phasers) new = let others = children-push test id phasers new in omega (arith, others)

-- no children
children-none : (test : Flat → Bool) (id : ℕ) (phasers : List PhaserState)
    → ((k : ℕ) → k < length phasers → is_under id (phaser_at phasers k).line ≡ false) → children test id phasers ≡ 0
children-none test id [] none = refl
children-none test id (p ∷ phasers) none =
    let first : (is_under id p.line && test p.flat) ≡ false = ap (λ (u : Bool). u && test p.flat) (none 0 (omega arith)) in
    let one = add-bit (is_under id p.line && test p.flat) in
    let zero_bit : bit (is_under id p.line && test p.flat) ≡ 0 = ap bit first in
    let others = children-none test id phasers (λ k there. none (suc k) (omega (arith, there))) in
    omega (arith, one, zero_bit, others)

tail_if : (empty : Bool) (f g : Join → Bool) (js ks : List Join) → list_any f js ≡ list_any g ks
    → list_any f (if empty then js else []) ≡ list_any g (if empty then ks else [])
tail_if true f g js ks same = same
tail_if false f g js ks same = refl

-- the phasers of a line have the room that they had
room_more : (line : List ℕ) (count : ℕ) (phasers : List PhaserState) (new : PhaserState) → All (λ (a : ℕ). a < length phasers) line
    → let more = phasers ++ new ∷ [] in
    list_any (is_overfull more) (joins_along line count more) ≡ list_any (is_overfull phasers) (joins_along line count phasers)
room_more [] count phasers new within = refl
room_more (id ∷ above) count phasers new within =
    grind (
      arith,
      All-head,
      get_or_append_left,
      All-tail,
      tail_if,
      room_more above 1 phasers new (All-tail (λ (a : ℕ). a < length phasers) id above
          within),
    )

none_if : (empty : Bool) (f : Join → Bool) (js : List Join) → list_any f js ≡ false → list_any f (if empty then js else []) ≡ false
none_if true f js none = none
none_if false f js none = refl

-- in a tree without a pending phase end no phaser of a line is turned
none_turned : (above : List ℕ) (i count root : ℕ) (phasers : List PhaserState) → IsForest phasers → i < length phasers
    → (phaser_at phasers i).line ≡ i ∷ above → root_at phasers i ≡ root
    → ((n : ℕ) → n < length phasers → root_at phasers n ≡ root → (flat_at phasers n).turned ≡ false)
    → list_any (is_turned phasers) (joins_along (i ∷ above) count phasers) ≡ false
none_turned [] i count root phasers sound there line tree idle = grind (arith, none_if)
none_turned (q ∷ more) i count root phasers sound there line tree idle =
    let parent = next-parent phasers i q more sound there line in
    let below : q < i = parent.0 in
    let within : q < length phasers = omega (arith, below, there) in
    let above_tree = sym (root-parent phasers i q sound within (line ∙ ap (λ (l : List ℕ). i ∷ l) (sym parent.1))) ∙ tree in
    ap (λ (b : Bool). b || list_any (is_turned phasers) (if is_empty (flat_at phasers i) then joins_along (q ∷ more) 1 phasers else [])) (idle i there tree)
    ∙ none_if (is_empty (flat_at phasers i)) (is_turned phasers) (joins_along (q ∷ more) 1 phasers)
    (none_turned more q 1 root phasers sound within parent.1 above_tree idle)

-- a forest whose last phaser is new, after its joins: `gain` says whom they gave a party
record IsAdded (phasers : List PhaserState) (new : PhaserState) (parties : ℕ) (gain : ℕ → ℕ) (after : List PhaserState) : Type 0 where
  off : (id : ℕ) → IsOff id (gain id) 0 (gain id) 0 (phasers ++ new ∷ []) after
  joined_bit : (id : ℕ) → bit (is_under id new.line && has_joined new.flat) ≡ gain id
  awaited_bit : (id : ℕ) → bit (is_under id new.line && is_awaited new.flat) ≡ gain id
  last : gain (length phasers) ≡ 0
  same : places_of after ≡ places_of (phasers ++ new ∷ [])
  ended : (id : ℕ) → (flat_at after id).ended ≡ (flat_at (phasers ++ new ∷ []) id).ended
  good : (id : ℕ) → IsGood (root_at (phasers ++ new ∷ []) id) id (flat_at (phasers ++ new ∷ []) id)
      → IsGood (root_at (phasers ++ new ∷ []) id) id (flat_at after id)
  count : new.flat.parties ≡ parties
  unarrived : unarrived_of new.flat ≡ parties
  fresh : (new.flat.turned ≡ false) × (new.flat.arrived ≡ 0)
  tree : (flat_at (phasers ++ new ∷ []) (root_at (phasers ++ new ∷ []) (length phasers))).ended ≡ new.flat.ended

-- a phaser that was declared before isn't a child
no_child : (phasers : List PhaserState) (id k : ℕ) → IsForest phasers → k < length phasers → k < id → is_under id (phaser_at phasers k).line ≡ false
no_child phasers id k sound there before = grind (arith, child-tree)

-- an old phaser is as steady as before
old_steady : (phasers : List PhaserState) (new : PhaserState) (parties id : ℕ) (gain : ℕ → ℕ) (after : List PhaserState)
    → IsForest phasers → id < length phasers → IsSteady id phasers → IsAdded phasers new parties gain after → IsSteady id after
old_steady phasers new parties id gain after sound there was added =
    let good = added.good id in
    let was_good : IsGood (root_at phasers id) id (flat_at phasers id) = record { arrived = was.arrived; turned = was.turned; child = was.child } in
    grind (arith, root-same, root_within, get_or_append_left, good, was_good)

-- and the new one is steady
new_steady : (phasers : List PhaserState) (new : PhaserState) (parties : ℕ) (gain : ℕ → ℕ) (after : List PhaserState)
    → IsAdded phasers new parties gain after → IsSteady (length phasers) after
new_steady phasers new parties gain after added = grind (arith, root-same, get_or_push)

old_tallied : (phasers : List PhaserState) (new : PhaserState) (parties id : ℕ) (gain : ℕ → ℕ) (after : List PhaserState) (origin other : Origin)
    → id < length phasers → IsTallied origin id phasers → IsAdded phasers new parties gain after
    → other.registered id ≡ origin.registered id → other.unarrived id ≡ origin.unarrived id → IsTallied other id after
old_tallied phasers new parties id gain after origin other there tally added registered unarrived =
    let off = added.off id in
    grind (arith, children-push, get_or_append_left, off)

new_tallied : (phasers : List PhaserState) (new : PhaserState) (parties : ℕ) (gain : ℕ → ℕ) (after : List PhaserState) (other : Origin)
    → IsForest phasers → IsAdded phasers new parties gain after
    → other.registered (length phasers) ≡ parties → other.unarrived (length phasers) ≡ parties → IsTallied other (length phasers) after
new_tallied phasers new parties gain after other sound added registered unarrived =
    let n = length phasers in
    let off = added.off n in
    let newest : phaser_at (phasers ++ new ∷ []) n ≡ new = get_or_push phasers new no_phaser n refl in
    let none : (test : Flat → Bool) → children test n phasers ≡ 0 =
    λ test. children-none test n phasers (λ k there. no_child phasers n k sound there there) in
    let joined = children-push has_joined n phasers new in let no_joined = none has_joined in let joined_bit = added.joined_bit n in
    let awaited = children-push is_awaited n phasers new in let no_awaited = none is_awaited in let awaited_bit = added.awaited_bit n in
    grind (arith, newest, off, joined, no_joined, joined_bit, awaited, no_awaited, awaited_bit)

stands_added : (phasers : List PhaserState) (new : PhaserState) (parties : ℕ) (top : Bool) (gain : ℕ → ℕ) (after : List PhaserState) (origin : Origin)
    → IsForest phasers → IsForest (phasers ++ new ∷ []) → AreTallied phasers origin → IsAdded phasers new parties gain after
    → AreTallied after (declared_at (length phasers) parties top origin)
stands_added phasers new parties top gain after origin sound sound_more stands added =
    let n = length phasers in
    let more = phasers ++ new ∷ [] in
    let other : Origin = declared_at n parties top origin in
    let longer : length more ≡ n + 1 = length_push phasers new in
    let many : length after ≡ length more = sym (length-places after) ∙ ap length added.same ∙ length-places more in
    record {
      steady = λ id here. elim (cases_lt id n) as (λ _. IsSteady id after) [
        | inl there ↦ old_steady phasers new parties id gain after sound there (stands.steady id there) added
        | inr last ↦
            subst (λ (m : ℕ). IsSteady m after) (omega (arith, last, here, many, longer)) (new_steady phasers new parties gain after added)
      ];
      tallied = λ id here clean live. elim (cases_lt id n) as (λ _. IsTallied other id after) [
        | inl there ↦
            let below = root_within phasers id sound there in
            let apart : (root_at phasers id == n) ≡ false = grind (arith, nat_tests, below) in
            let is : (id == n) ≡ false = grind (arith, nat_tests, there) in
            let old : phaser_at more id ≡ phaser_at phasers id = get_or_append_left phasers (new ∷ []) no_phaser id there in
            let root : root_at after id ≡ root_at phasers id = root-same more after id added.same ∙ ap root_of old in
            let clean_before : origin.stray (root_at phasers id) ≡ false = grind (arith, root, apart, clean) in
            let live_before : (flat_at phasers id).ended ≡ false = ap (λ (p : PhaserState). p.flat.ended) (sym old) ∙ sym (added.ended id) ∙ live in
            old_tallied phasers new parties id gain after origin other there (stands.tallied id there clean_before live_before) added
            (ap (λ (t : Bool). if t then parties else origin.registered id) is) (ap (λ (t : Bool). if t then parties else origin.unarrived id) is)
        | inr last ↦
            subst (λ (m : ℕ). IsTallied other m after) (omega (arith, last, here, many, longer))
            (new_tallied phasers new parties gain after other sound added
            (ap (λ (t : Bool). if t then parties else origin.registered n) (same-is n)) (ap (λ (t : Bool). if t then parties else origin.unarrived n) (same-is n)))
      ];
    }

no_bit : (under : Bool) → bit (under && false) ≡ 0
no_bit true = refl
no_bit false = refl

-- nothing is joined: a root, or a child without parties
added_alone : (phasers : List PhaserState) (new : PhaserState) (phase parties : ℕ) → new.flat ≡ fresh phase parties
    → ((id : ℕ) → bit (is_under id new.line && has_joined new.flat) ≡ 0)
    → ((id : ℕ) → bit (is_under id new.line && is_awaited new.flat) ≡ 0)
    → (flat_at (phasers ++ new ∷ []) (root_at (phasers ++ new ∷ []) (length phasers))).ended ≡ false
    → IsAdded phasers new parties (λ (id : ℕ). 0) (phasers ++ new ∷ [])
added_alone phasers new phase parties is joined_bit awaited_bit tree = grind arith

-- a child with parties has joined its parent
added_below : (phasers after : List PhaserState) (new : PhaserState) (phase parties q : ℕ) (rest : List ℕ) → new.flat ≡ fresh phase parties
    → 0 < parties → q < length phasers → new.line ≡ length phasers ∷ q ∷ rest
    → places_of after ≡ places_of (phasers ++ new ∷ []) → Changes q 1 0 1 0 (phasers ++ new ∷ []) after
    → (flat_at (phasers ++ new ∷ []) (root_at (phasers ++ new ∷ []) (length phasers))).ended ≡ false
    → IsAdded phasers new parties (λ (id : ℕ). bit (q == id)) after
added_below phasers after new phase parties q rest is some below line same changes tree = grind (arith, nat_tests, cases_eq, same-is, other-is)

-- the phasers of the parent's tree are fresh, and so is the new one
fresh_more : (phasers : List PhaserState) (new : PhaserState) (root : ℕ) → IsFreshTree root phasers → IsFresh new
    → (k : ℕ) → k < length (phasers ++ new ∷ []) → root_at (phasers ++ new ∷ []) k ≡ root → IsFresh (phaser_at (phasers ++ new ∷ []) k)
fresh_more phasers new root tree first k here inside = grind (arith, length_push, cases_lt, get_or_append_left, get_or_push)

good_more : (phasers : List PhaserState) (new : PhaserState) (origin : Origin) → AreTallied phasers origin → IsFresh new → AllGood (phasers ++ new ∷ [])
good_more phasers new origin stands first k here = grind (arith, length_push, cases_lt, IsGood, get_or_append_left, get_or_push)

-- the root of a new child isn't terminated
live_root : (phasers : List PhaserState) (new : PhaserState) (q : ℕ) → IsForest phasers → IsForest (phasers ++ new ∷ []) → q < length phasers
    → new.line ≡ length phasers ∷ (phaser_at phasers q).line → IsFreshTree (root_at phasers q) phasers
    → (flat_at (phasers ++ new ∷ []) (root_at (phasers ++ new ∷ []) (length phasers))).ended ≡ false
live_root phasers new q sound sound_more below line tree = grind (arith, get_or_push, get_or_append_left, length_push, root_within, root-parent, root-root)

-- a child, with parties or without
stands_child : (none : Bool) (phasers after : List PhaserState) (new : PhaserState) (phase parties q : ℕ) (origin : Origin)
    → IsForest phasers → IsForest (phasers ++ new ∷ []) → q < length phasers → new.flat ≡ fresh phase parties
    → new.line ≡ length phasers ∷ (phaser_at phasers q).line → IsFreshTree (root_at phasers q) phasers → AreTallied phasers origin
    → (parties == 0) ≡ none
    → list_any (is_overfull phasers) (if none then [] else joins_along (phaser_at phasers q).line 1 phasers) ≡ false
    → after ≡ joined (if none then [] else joins_along (phaser_at (phasers ++ new ∷ []) q).line 1 (phasers ++ new ∷ [])) (phasers ++ new ∷ [])
    → AreTallied after (declared_at (length phasers) parties false origin)
stands_child true phasers after new phase parties q origin sound sound_more below first line tree stands none room is =
    let more = phasers ++ new ∷ [] in
    let empty : has_joined new.flat ≡ false = ap has_joined first ∙ ap not none in
    let waits : is_awaited new.flat ≡ false = ap is_awaited first ∙ ap (λ (z : Bool). not z && true) none in
    subst (λ (ps : List PhaserState). AreTallied ps (declared_at (length phasers) parties false origin)) (sym is)
    (stands_added phasers new parties false (λ (id : ℕ). 0) more origin sound sound_more stands
    (added_alone phasers new phase parties first
    (λ id. ap (λ (t : Bool). bit (is_under id new.line && t)) empty ∙ no_bit (is_under id new.line))
    (λ id. ap (λ (t : Bool). bit (is_under id new.line && t)) waits ∙ no_bit (is_under id new.line))
    (live_root phasers new q sound sound_more below line tree)))
stands_child false phasers after new phase parties q origin sound sound_more below first line tree stands none room is =
    let more = phasers ++ new ∷ [] in
    let old_q : phaser_at more q ≡ phaser_at phasers q = get_or_append_left phasers (new ∷ []) no_phaser q below in
    let longer : length more ≡ length phasers + 1 = length_push phasers new in
    let within : q < length more = omega (arith, below, longer) in
    let r = root_at phasers q in
    let is_fresh : IsFresh new = first ∙ sym (ap (λ (f : Flat). fresh f.phase f.parties) first) in
    let some : 0 < parties = grind (arith, nat_tests, none) in
    let own = line_own more q sound_more within in
    let own_old : (phaser_at phasers q).line ≡ q ∷ own.0 = sym (ap (λ (p : PhaserState). p.line) old_q) ∙ own.1 in
    let fresh_tree = fresh_more phasers new r tree is_fresh in
    let root_q : root_at more q ≡ r = ap root_of old_q in
    let room_more_is : list_any (is_overfull more) (joins_along (q ∷ own.0) 1 more) ≡ false =
    ap (λ (l : List ℕ). list_any (is_overfull more) (joins_along l 1 more)) (sym own_old)
    ∙ room_more (phaser_at phasers q).line 1 phasers new (line_within phasers q sound below) ∙ room in
    let idle : list_any (is_turned more) (joins_along (q ∷ own.0) 1 more) ≡ false =
    none_turned own.0 q 1 r more sound_more within own.1 root_q
    (λ k here inside. ap (λ (f : Flat). f.turned) (fresh_tree k here inside)) in
    let changes : Changes q 1 0 1 0 more (joined (joins_along (q ∷ own.0) 1 more) more) =
    join-changes own.0 q 1 r more sound_more within own.1 (good_more phasers new origin stands is_fresh)
    (λ k here inside. ap (λ (f : Flat). f.ended) (fresh_tree k here inside)) root_q (omega arith) room_more_is idle in
    let after_is : after ≡ joined (joins_along (q ∷ own.0) 1 more) more =
    is ∙ ap (λ (l : List ℕ). joined (joins_along l 1 more) more) own.1 in
    subst (λ (ps : List PhaserState). AreTallied ps (declared_at (length phasers) parties false origin)) (sym after_is)
    (stands_added phasers new parties false (λ (id : ℕ). bit (q == id)) (joined (joins_along (q ∷ own.0) 1 more) more) origin sound sound_more stands
    (added_below phasers (joined (joins_along (q ∷ own.0) 1 more) more) new phase parties q own.0 first some below
    (line ∙ ap (λ (l : List ℕ). length phasers ∷ l) own_old)
    (joined-places (joins_along (q ∷ own.0) 1 more) more) changes
    (live_root phasers new q sound sound_more below line tree)))

-- a declaration that comes through
pub stands_declared : (parent : Option PhaserId) (parties : ℕ) (policy : Policy) (phase : ℕ) (phasers after : List PhaserState) (origin : Origin)
    → length phasers < 64 → has_parent parent phasers ≡ true → IsForest phasers → IsFreshAbove parent phasers
    → list_any (is_overfull phasers) (joins_above parent parties phasers) ≡ false
    → after ≡ joined (joins_above parent parties (phasers ++ declared parent parties policy phase phasers ∷ []))
    (phasers ++ declared parent parties policy phase phasers ∷ [])
    → AreTallied phasers origin → AreTallied after (declared_at (length phasers) parties (is_root parent) origin)
stands_declared None parties policy phase phasers after origin few there sound fresh_above room is stands =
    let new = declared None parties policy phase phasers in
    let newest : phaser_at (phasers ++ new ∷ []) (length phasers) ≡ new = get_or_push phasers new no_phaser (length phasers) refl in
    let root : root_at (phasers ++ new ∷ []) (length phasers) ≡ length phasers = ap root_of newest in
    subst (λ (ps : List PhaserState). AreTallied ps (declared_at (length phasers) parties true origin)) (sym is)
    (stands_added phasers new parties true (λ (id : ℕ). 0) (phasers ++ new ∷ []) origin sound
    (forest_declared None parties policy phase phasers few there sound) stands
    (added_alone phasers new phase parties refl (λ id. refl) (λ id. refl)
    (ap (λ (m : ℕ). (flat_at (phasers ++ new ∷ []) m).ended) root ∙ ap (λ (p : PhaserState). p.flat.ended) newest)))
stands_declared (Some parent) parties policy phase phasers after origin few there sound fresh_above room is stands =
    let below : parent.0 < length phasers = grind (arith, nat_tests, there) in
    stands_child (parties == 0) phasers after (declared (Some parent) parties policy phase phasers) (flat_at phasers parent.0).phase parties parent.0 origin
    sound (forest_declared (Some parent) parties policy phase phasers few there sound) below refl refl (fresh_above parent refl below) stands refl room is
