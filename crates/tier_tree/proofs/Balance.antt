-- What an arrival makes of the counts of a forest.
use Rattle.std.proofs.Common.{inl, inr, ◌≡◌, ◌≢◌, ◌∙◌, ℕ, suc, ◌+◌, ◌-◌, ◌<◌, ◌≤◌, ◌==◌, Bool, true, false, List, [], ◌∷◌, length, ap, refl, sym, subst, arith, if◌then◌else◌, rules, ◌&&◌, not, slice_index_or, get_or-set_same, get_or-set_other}
use Rattle.std.proofs.lemmas.Bool.{cases_eq, Decides.nat_tests}
use Rattle.packed_phaser.specs.Flat.{Flat, Arrival, Counts, Turns, ComesLate, IsUnregistered, unarrived_of, arrive, settled, vacate, view_of}
use Rattle.tier_tree.specs.{declared.climb.Climb.Climb, Sound.Place, Sound.place_of, Sound.places_of, Sound.IsForest}
use Rattle.tier_tree.specs.Forest.{PhaserState, no_phaser, phaser_at, flat_at, root_at, with_flat}
use Rattle.tier_tree.specs.Arrival.{Climbed, is_top, passed_on, with_child, climbed_by, climbed}
use Rattle.tier_tree.specs.Origin.{is_under, children, has_joined, is_awaited}
use Rattle.tier_tree.specs.declared.climb.Climb.TheVariants as climb
use Rattle.tier_tree.proofs.Lines.{place_at-places, length-places, climbed-places}
use Rattle.tier_tree.proofs.Safe.{linked, line_own, last_of}

-- a test as a number
abbrev pub bit : Bool → ℕ
bit true = 1
bit false = 0

-- one phaser changes: its parent counts it anew
pub children-set : (test : Flat → Bool) (id : ℕ) (phasers : List PhaserState) (i : ℕ) (flat : Flat) → i < length phasers
    → children test id (with_flat phasers i flat) + bit (is_under id (phaser_at phasers i).line && test (flat_at phasers i))
    ≡ children test id phasers + bit (is_under id (phaser_at phasers i).line && test flat)
children-set test id (p ∷ phasers) (suc i) flat there = grind (arith, children-set test id phasers i flat (omega (arith, there)))
children-set test id phasers i flat there = grind arith

pub put_same : (test : Flat → Bool) (id : ℕ) (phasers : List PhaserState) (i : ℕ) (flat : Flat) → i < length phasers
    → test flat ≡ test (flat_at phasers i) → children test id (with_flat phasers i flat) ≡ children test id phasers
put_same test id phasers i flat there same = grind (arith, children-set)

pub put_apart : (test : Flat → Bool) (id : ℕ) (phasers : List PhaserState) (i : ℕ) (flat : Flat) → i < length phasers
    → is_under id (phaser_at phasers i).line ≡ false → children test id (with_flat phasers i flat) ≡ children test id phasers
put_apart test id phasers i flat there apart = grind (arith, children-set)

pub put_under : (test : Flat → Bool) (id : ℕ) (phasers : List PhaserState) (i : ℕ) (flat : Flat) → i < length phasers
    → is_under id (phaser_at phasers i).line ≡ true
    → children test id (with_flat phasers i flat) + bit (test (flat_at phasers i)) ≡ children test id phasers + bit (test flat)
put_under test id phasers i flat there under = grind (arith, children-set)

pub flat-put : (phasers : List PhaserState) (i : ℕ) (flat : Flat) → i < length phasers → flat_at (with_flat phasers i flat) i ≡ flat
flat-put phasers i flat there = grind (arith, get_or-set_same)

pub flat-other : (phasers : List PhaserState) (i : ℕ) (flat : Flat) (id : ℕ) → id ≢ i → flat_at (with_flat phasers i flat) id ≡ flat_at phasers id
flat-other phasers i flat id other = grind (arith, get_or-set_other)

-- the counts of one phaser and of its children have gone this much apart
pub record IsOff (id more less more_left less_left : ℕ) (before after : List PhaserState) : Type 0 where
  pub registered : (flat_at after id).parties + less + children has_joined id before
      ≡ (flat_at before id).parties + more + children has_joined id after
  pub unarrived : unarrived_of (flat_at after id) + less_left + children is_awaited id before
      ≡ unarrived_of (flat_at before id) + more_left + children is_awaited id after

-- what one phaser is by itself
pub record IsGood (root id : ℕ) (flat : Flat) : Type 0 where
  pub arrived : flat.arrived ≤ flat.parties
  pub turned : flat.turned ≡ true → (flat.ended ≡ false) × (flat.arrived ≡ flat.parties)
  pub child : flat.turned ≡ true → root ≢ id → 0 < flat.parties

-- a change that begins at this phaser and goes up
pub record Changes (first more less more_left less_left : ℕ) (before after : List PhaserState) : Type 0 where
  pub own : IsOff first more less more_left less_left before after
  pub others : (id : ℕ) → id ≢ first → IsOff id 0 0 0 0 before after
  pub same : (id : ℕ) → first < id → flat_at after id ≡ flat_at before id
  pub ended : (id : ℕ) → (flat_at after id).ended ≡ (flat_at before id).ended
  pub good : (id : ℕ) → IsGood (root_at before id) id (flat_at before id) → IsGood (root_at before id) id (flat_at after id)

-- the parties that arrived leave or stay
abbrev pub counted : Bool → Flat → Flat
counted leave f = if leave then record f { parties = f.parties - 1 } else record f { arrived = f.arrived + 1 }

arrive-is : (leave : Bool) (f : Flat) → arrive leave f
    ≡ (if f.ended then ComesLate (view_of f) else (if f.arrived == f.parties then IsUnregistered else settled (counted leave f)))
arrive-is true f = refl
arrive-is false f = refl

-- one arrival in numbers
record IsCounted (leave : Bool) (before after : Flat) : Type 0 where
  parties : after.parties + bit leave ≡ before.parties
  unarrived : unarrived_of after + 1 ≡ unarrived_of before
  within : after.arrived ≤ after.parties
  ended : after.ended ≡ before.ended
  turned : after.turned ≡ before.turned

in_numbers : (leave : Bool) (f : Flat) → f.arrived ≤ f.parties → f.arrived ≢ f.parties → IsCounted leave f (counted leave f)
in_numbers true f within some = grind arith
in_numbers false f within some = grind arith

-- a phaser that waits for somebody has joined its parent, and its parent waits for it
pub waiting : (f : Flat) → f.ended ≡ false → f.turned ≡ false → 0 < f.parties → (has_joined f ≡ true) × (is_awaited f ≡ true)
waiting f live idle some = grind (arith, nat_tests)

open_flat : (f : Flat) → (f.turned ≡ true → (f.ended ≡ false) × (f.arrived ≡ f.parties)) → f.arrived ≢ f.parties → f.turned ≡ false
open_flat f turned some = grind arith

-- an arrival that comes through
abbrev pub Succeeds : Climb → Type 0
Succeeds climb.Counted = Unit {0}
Succeeds climb.Turned = Unit {0}
Succeeds climb.Refused = ⊥

abbrev pub AllGood : List PhaserState → Type 0
AllGood phasers = (id : ℕ) → id < length phasers → IsGood (root_at phasers id) id (flat_at phasers id)

some_of : (arrived parties : ℕ) → arrived ≤ parties → arrived ≢ parties → 0 < parties
some_of arrived parties within some = omega (arith, within, some)

-- others are still to arrive
counted_case : (leave : Bool) (phasers : List PhaserState) (i : ℕ) → i < length phasers → AllGood phasers
    → (flat_at phasers i).ended ≡ false → (flat_at phasers i).arrived ≢ (flat_at phasers i).parties
    → (counted leave (flat_at phasers i)).arrived ≢ (counted leave (flat_at phasers i)).parties
    → Changes i 0 (bit leave) 0 1 phasers (with_flat phasers i (counted leave (flat_at phasers i)))
counted_case leave phasers i there good live some others = search (rules, in_numbers, open_flat, waiting, some_of, put_same)

-- the root's last
top_case : (leave : Bool) (phasers : List PhaserState) (i : ℕ) → i < length phasers → AllGood phasers
    → (phaser_at phasers i).line ≡ i ∷ []
    → (flat_at phasers i).ended ≡ false → (flat_at phasers i).arrived ≢ (flat_at phasers i).parties
    → (counted leave (flat_at phasers i)).arrived ≡ (counted leave (flat_at phasers i)).parties
    → Changes i 0 (bit leave) 0 1 phasers (with_flat phasers i (record (counted leave (flat_at phasers i)) { turned = true }))
top_case leave phasers i there good top live some all = search (rules, in_numbers, put_apart, last_of)

-- what a child that all have arrived at shows its parent
record IsPassed (none : Bool) (last after : Flat) : Type 0 where
  joined : has_joined after ≡ not none
  awaited : is_awaited after ≡ false
  parties : after.parties ≡ last.parties
  unarrived : unarrived_of after ≡ unarrived_of last
  ended : after.ended ≡ last.ended
  good : (root id : ℕ) → IsGood root id after

passed : (none : Bool) (g : Flat) → g.ended ≡ false → (g.parties == 0) ≡ none → g.arrived ≡ g.parties
    → IsPassed none g (if none then vacate (record g { turned = true }) else record g { turned = true })
passed true g live none all = grind arith
passed false g live none all = grind (arith, nat_tests)

bit-not : (b : Bool) → bit b + bit (not b) ≡ 1
bit-not true = refl
bit-not false = refl

pub apart : (q id : ℕ) → id ≢ q → (q == id) ≡ false
apart q id other = grind (arith, nat_tests, other)

-- a child's last: its parent changed to `mid`, and then the child
record IsChildCase (leave none : Bool) (phasers mid : List PhaserState) (i q : ℕ) (more : List ℕ) (after : Flat) : Type 0 where
  there : i < length phasers
  below : q < i
  line : (phaser_at mid i).line ≡ i ∷ q ∷ more
  many : length mid ≡ length phasers
  waits : (has_joined (flat_at phasers i) ≡ true) × (is_awaited (flat_at phasers i) ≡ true)
  last : IsCounted leave (flat_at phasers i) (counted leave (flat_at phasers i))
  passes : IsPassed none (counted leave (flat_at phasers i)) after
  parent : Changes q 0 (bit none) 0 1 phasers mid

child_own : (leave none : Bool) (phasers mid : List PhaserState) (i q : ℕ) (more : List ℕ) (after : Flat)
    → IsChildCase leave none phasers mid i q more after → IsOff i 0 (bit leave) 0 1 phasers (with_flat mid i after)
child_own leave none phasers mid i q more after case =
    let own = case.parent.others i (λ is. absurd (omega (arith, is, case.below))) in
    let kept = case.parent.same i case.below in
    grind (arith, put_apart, flat-put, apart, own, kept)

child_parent : (leave none : Bool) (phasers mid : List PhaserState) (i q : ℕ) (more : List ℕ) (after : Flat)
    → IsChildCase leave none phasers mid i q more after → IsOff q 0 0 0 0 phasers (with_flat mid i after)
child_parent leave none phasers mid i q more after case =
    let kept = case.parent.same i case.below in
    grind (arith, put_under, flat-other, nat_tests, bit-not, kept)

child_other : (leave none : Bool) (phasers mid : List PhaserState) (i q : ℕ) (more : List ℕ) (after : Flat) (id : ℕ)
    → IsChildCase leave none phasers mid i q more after → id ≢ i → id ≢ q → IsOff id 0 0 0 0 phasers (with_flat mid i after)
child_other leave none phasers mid i q more after id case other not_parent =
    let off = case.parent.others id not_parent in
    grind (arith, put_apart, flat-other, apart, off)

child_case : (leave none : Bool) (phasers mid : List PhaserState) (i q : ℕ) (more : List ℕ) (after : Flat)
    → IsChildCase leave none phasers mid i q more after → Changes i 0 (bit leave) 0 1 phasers (with_flat mid i after)
child_case leave none phasers mid i q more after case = record {
  own = child_own leave none phasers mid i q more after case;
  others = λ id other. elim (cases_eq id q) as (λ _. IsOff id 0 0 0 0 phasers (with_flat mid i after)) [
    | inl is ↦ subst (λ (n : ℕ). IsOff n 0 0 0 0 phasers (with_flat mid i after)) (sym is) (child_parent leave none phasers mid i q more after case)
    | inr not_it ↦ child_other leave none phasers mid i q more after id case other not_it
  ];
  same = λ id above. let kept = case.parent.same id (omega (arith, case.below, above)) in grind (arith, flat-other, kept);
  ended = λ id. let kept = case.parent.ended id in grind (arith, flat-put, flat-other, cases_eq, kept);
  good = λ id had.
      let kept = case.parent.good id had in
      let new = case.passes.good (root_at phasers id) id in
      let put = flat-put mid i after (omega (arith, case.many, case.there)) in
      grind (arith, flat-other, cases_eq, kept, new, put);
}

-- what the arrival above has made of the counts, where it comes through
abbrev pub Onward : List ℕ → (Bool → Climbed) → List PhaserState → Type 0
Onward [] onward phasers = Unit {0}
Onward (q ∷ more) onward phasers =
    (leaves : Bool) → Succeeds (onward leaves).climb → Changes q 0 (bit leaves) 0 1 phasers (onward leaves).phasers

child_by : (c : Climb) (id first less : ℕ) (last : Flat) (phasers mid : List PhaserState) → Succeeds (with_child id last c mid).climb
    → (Succeeds c → Changes first 0 less 0 1 phasers (with_flat mid id (passed_on last)))
    → Changes first 0 less 0 1 phasers (with_child id last c mid).phasers
child_by c id first less last phasers mid ok changes = grind arith

abbrev others_of : List ℕ → List ℕ
others_of [] = []
others_of (x ∷ rest) = rest

-- the next phaser of a line is the parent
pub next-parent : (phasers : List PhaserState) (i q : ℕ) (more : List ℕ) → IsForest phasers → i < length phasers
    → (phaser_at phasers i).line ≡ i ∷ q ∷ more → (q < i) × ((phaser_at phasers q).line ≡ q ∷ more)
next-parent phasers i q more sound there line = grind (arith, linked, line_own)

-- the phasers after an arrival, by how it fares at its first phaser
climb_by : (above : List ℕ) (leave : Bool) (phasers : List PhaserState) (i : ℕ) (onward : Bool → Climbed) → IsForest phasers → i < length phasers
    → (phaser_at phasers i).line ≡ i ∷ above → AllGood phasers
    → (ended missing last : Bool) → (flat_at phasers i).ended ≡ ended
    → ((flat_at phasers i).arrived == (flat_at phasers i).parties) ≡ missing
    → ((counted leave (flat_at phasers i)).arrived == (counted leave (flat_at phasers i)).parties) ≡ last
    → Onward above onward phasers
    → ((leaves : Bool) → places_of (onward leaves).phasers ≡ places_of phasers)
    → let r = climbed_by (if ended then ComesLate (view_of (flat_at phasers i)) else (if missing then IsUnregistered
    else (if last then Turns (record (counted leave (flat_at phasers i)) { turned = true }) else Counts (counted leave (flat_at phasers i)))))
    i (is_top above) onward phasers in
    Succeeds r.climb → Changes i 0 (bit leave) 0 1 phasers r.phasers
climb_by above leave phasers i onward sound there line good false false false is_ended is_missing is_last rest kept ok =
    counted_case leave phasers i there good is_ended (λ all. absurd (grind (arith, nat_tests, all, is_missing)))
    (λ all. absurd (grind (arith, nat_tests, all, is_last)))
climb_by [] leave phasers i onward sound there line good false false true is_ended is_missing is_last rest kept ok =
    top_case leave phasers i there good line is_ended (λ all. absurd (grind (arith, nat_tests, all, is_missing)))
    (grind (arith, nat_tests, is_last))
climb_by (q ∷ more) leave phasers i onward sound there line good false false true is_ended is_missing is_last rest kept ok =
    let f = flat_at phasers i in
    let g = counted leave f in
    let none : Bool = g.parties == 0 in
    let mid = onward none in
    let some : f.arrived ≢ f.parties = λ all. absurd (grind (arith, nat_tests, all, is_missing)) in
    let all : g.arrived ≡ g.parties = grind (arith, nat_tests, is_last) in
    let live : g.ended ≡ false = (in_numbers leave f (good i there).arrived some).ended ∙ is_ended in
    let same = kept none in
    let many : length mid.phasers ≡ length phasers = sym (length-places mid.phasers) ∙ ap length same ∙ length-places phasers in
    let moved : (phaser_at mid.phasers i).line ≡ i ∷ q ∷ more =
    ap (λ (p : Place). p.line) (place_at-places mid.phasers i ∙ ap (λ (ps : List Place). slice_index_or ps i (place_of no_phaser)) same
    ∙ sym (place_at-places phasers i)) ∙ line in
    child_by mid.climb i i (bit leave) (record g { turned = true }) phasers mid.phasers ok
    (λ through. child_case leave none phasers mid.phasers i q more (passed_on (record g { turned = true })) (record {
      there = there;
      below = (next-parent phasers i q more sound there line).0;
      line = moved;
      many = many;
      waits = waiting f is_ended (open_flat f (good i there).turned some) (some_of f.arrived f.parties (good i there).arrived some);
      last = in_numbers leave f (good i there).arrived some;
      passes = passed none g live refl all;
      parent = rest none through;
    }))
climb_by above leave phasers i onward sound there line good _ _ last is_ended is_missing is_last rest kept ok = absurd ok

-- an arrival that comes through takes one from its first phaser, and the phasers above stay balanced
pub climb-changes : (above : List ℕ) (i : ℕ) (leave : Bool) (phasers : List PhaserState) → IsForest phasers → i < length phasers
    → (phaser_at phasers i).line ≡ i ∷ above → AllGood phasers → Succeeds (climbed (i ∷ above) leave phasers).climb
    → Changes i 0 (bit leave) 0 1 phasers (climbed (i ∷ above) leave phasers).phasers
climb-changes [] i leave phasers sound there line good =
    let onward : Bool → Climbed = λ leaves. climbed [] leaves phasers in
    let P : Arrival → Type 0 = λ (a : Arrival). Succeeds (climbed_by a i true onward phasers).climb
    → Changes i 0 (bit leave) 0 1 phasers (climbed_by a i true onward phasers).phasers in
    subst P (sym (arrive-is leave (flat_at phasers i)))
    (climb_by [] leave phasers i onward sound there line good _ _ _ refl refl refl tt (λ leaves. climbed-places [] leaves phasers))
climb-changes (q ∷ more) i leave phasers sound there line good =
    let onward : Bool → Climbed = λ leaves. climbed (q ∷ more) leaves phasers in
    let P : Arrival → Type 0 = λ (a : Arrival). Succeeds (climbed_by a i false onward phasers).climb
    → Changes i 0 (bit leave) 0 1 phasers (climbed_by a i false onward phasers).phasers in
    let parent = next-parent phasers i q more sound there line in
    let below : q < i = parent.0 in
    subst P (sym (arrive-is leave (flat_at phasers i)))
    (climb_by (q ∷ more) leave phasers i onward sound there line good _ _ _ refl refl refl
    (λ leaves. climb-changes more q leaves phasers sound (omega (arith, below, there)) parent.1 good)
    (λ leaves. climbed-places (q ∷ more) leaves phasers))
