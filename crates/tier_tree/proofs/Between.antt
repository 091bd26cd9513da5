-- While a root without strays is turned, nobody registers or arrives in its tree.
use Rattle.std.proofs.Common.{inl, inr, ◌≡◌, ◌∙◌, ℕ, ℤ, ◌-◌, ◌<◌, ◌≤◌, ◌==◌, Bool, true, false, List, [], ◌∷◌, length, ap, refl, sym, arith, if◌then◌else◌, ◌⊎◌, ◌||◌}
use Rattle.std.proofs.lemmas.Bool.Decides.{nat_tests}
use Rattle.std.specs.List.{list_any}
use Rattle.packed_phaser.specs.Flat.{is_empty}
use Rattle.tier_tree.specs.{declared.climb.Climb.Climb, declared.registered.Registered.Registered, Sound.IsForest}
use Rattle.tier_tree.specs.{Forest.PhaserState, Forest.phaser_at, Forest.flat_at, Forest.root_at, Law.NobodyComesBetween}
use Rattle.tier_tree.specs.Registration.{Join, joins, joins_along, is_overfull, is_turned, registration}
use Rattle.tier_tree.specs.Arrival.{climbed, Arrives, arrival_by}
use Rattle.tier_tree.specs.declared.climb.Climb.TheVariants as climb
use Rattle.tier_tree.specs.declared.registered.Registered.TheVariants as registered
use Rattle.tier_tree.specs.declared.arrived.Arrived.TheVariants as arrived
use Rattle.tier_tree.proofs.Safe.{HasAll, all_there, all_turned, line_own, last_of, root-parent}
use Rattle.tier_tree.proofs.Balance.{next-parent}

-- a phaser that has all takes no arrival
none_arrives : (id : ℕ) (above : List ℕ) (leave : Bool) (phasers : List PhaserState) → (flat_at phasers id).ended ≡ false
    → (flat_at phasers id).arrived ≡ (flat_at phasers id).parties → (climbed (id ∷ above) leave phasers).climb ≡ climb.Refused
none_arrives id above leave phasers live all = grind (arith, nat_tests)

or_true : (b : Bool) → (b || true) ≡ true
or_true true = refl
or_true false = refl

-- the first phaser of a line that isn't empty is turned
any_turned : (above : List ℕ) (i count root : ℕ) (phasers : List PhaserState) → IsForest phasers → i < length phasers
    → (phaser_at phasers i).line ≡ i ∷ above → root_at phasers i ≡ root → (flat_at phasers root).turned ≡ true
    → ((n : ℕ) → n < length phasers → root_at phasers n ≡ root → HasAll (flat_at phasers n))
    → list_any (is_turned phasers) (joins_along (i ∷ above) count phasers) ≡ true
any_turned [] i count root phasers sound there line tree turned all = grind (arith, last_of)
any_turned (q ∷ more) i count root phasers sound there line tree turned all =
    let rest : List Join = if is_empty (flat_at phasers i) then joins_along (q ∷ more) 1 phasers else [] in
    let parent = next-parent phasers i q more sound there line in
    let below : q < i = parent.0 in
    let within : q < length phasers = omega (arith, below, there) in
    let above_tree = sym (root-parent phasers i q sound within (line ∙ ap (λ (l : List ℕ). i ∷ l) (sym parent.1))) ∙ tree in
    let higher = any_turned more q 1 root phasers sound within parent.1 above_tree turned all in
    elim (all i there tree) as (λ _. list_any (is_turned phasers) (joins_along (i ∷ q ∷ more) count phasers) ≡ true) [
      | inl turned_here ↦ ap (λ (b : Bool). b || list_any (is_turned phasers) rest) turned_here
      | inr empty ↦ ap (λ (e : Bool). (flat_at phasers i).turned || list_any (is_turned phasers) (if e then joins_along (q ∷ more) 1 phasers else [])) empty
          ∙ ap (λ (b : Bool). (flat_at phasers i).turned || b) higher ∙ or_true (flat_at phasers i).turned
    ]

held : (ended over turned : Bool) (view phase : ℤ) → ended ≡ false → turned ≡ true
    → let answer : Registered = if ended then registered.Dead view else (if over then registered.TooMany
    else (if turned then registered.Held else registered.At phase)) in
    (answer ≡ registered.Held) ⊎ (answer ≡ registered.TooMany)
held true over turned view phase live is = absurd (cc)
held false _ turned view phase live is = grind arith

refused : (ended : Bool) (c : Climb) (id : ℕ) (after phasers : List PhaserState) (view : ℤ) → ended ≡ false → c ≡ climb.Refused
    → let r : Arrives = if ended then record { phasers = phasers; answer = arrived.Dead view } else arrival_by c id after phasers in
    r.answer ≡ arrived.NotThere
refused true c id after phasers view live is = absurd (cc)
refused false c id after phasers view live is = ap (λ (x : Climb). (arrival_by x id after phasers).answer) is

missing_none : (arrived parties : ℕ) → arrived ≤ parties → parties - arrived ≡ 0 → arrived ≡ parties
missing_none arrived parties within none = omega (arith, within, none)

pub between : (phasers : List PhaserState) → IsForest phasers → NobodyComesBetween phasers
between phasers sound origin id stands there clean turned =
    let root = root_at phasers id in
    let all : (n : ℕ) → n < length phasers → root_at phasers n ≡ root → HasAll (flat_at phasers n) =
    λ n here inside. all_turned phasers origin root sound stands clean turned (phaser_at phasers n).line n here refl inside in
    let own = line_own phasers id sound there in
    let steady = stands.steady id there in
    let done = all_there id phasers steady (all id there refl) in
    let equal = missing_none (flat_at phasers id).arrived (flat_at phasers id).parties steady.arrived done.1 in
    let regs : (count : ℕ) → 0 < count → (registration id count phasers ≡ registered.Held) ⊎ (registration id count phasers ≡ registered.TooMany) = λ count some.
    let positive : (count == 0) ≡ false = grind (arith, nat_tests, some) in
    let waits : list_any (is_turned phasers) (joins id count phasers) ≡ true =
    ap (λ (z : Bool). list_any (is_turned phasers) (if z then [] else joins_along (phaser_at phasers id).line count phasers)) positive
    ∙ ap (λ (l : List ℕ). list_any (is_turned phasers) (joins_along l count phasers)) own.1
    ∙ any_turned own.0 id count root phasers sound there own.1 refl turned all in
    held (flat_at phasers id).ended (list_any (is_overfull phasers) (joins id count phasers)) (list_any (is_turned phasers) (joins id count phasers)) _ _ done.0 waits in (
      regs,
      λ leave. refused (flat_at phasers id).ended (climbed (phaser_at phasers id).line leave phasers).climb id _ phasers _ done.0
          (ap (λ (l : List ℕ). (climbed l leave phasers).climb) own.1 ∙ none_arrives id own.0 leave phasers done.0 equal),
    )
