-- An arrival that is the last of its tree leaves the root turned.
use Rattle.std.proofs.Common.{◌≡◌, ◌≢◌, ◌∙◌, ℕ, ◌<◌, ◌≤◌, ◌==◌, Bool, true, false, List, [], ◌∷◌, length, ap, refl, sym, subst, arith, if◌then◌else◌, get_or-set_same, get_or-set_other}
use Rattle.packed_phaser.specs.Flat.{Flat, Arrival, arrive, view_of}
use Rattle.tier_tree.specs.{declared.climb.Climb.Climb, Forest.PhaserState, Forest.phaser_at, Forest.flat_at, Forest.root_at}
use Rattle.tier_tree.specs.{Answer.IfTurning, Answer.MakesPending, declared.arrived.Arrived.Arrived, Sound.IsForest}
use Rattle.tier_tree.specs.Arrival.{Arrives, arrival, arrival_by, Climbed, climbed_by, climbed}
use Rattle.tier_tree.specs.declared.climb.Climb.TheVariants as climb
use Rattle.tier_tree.specs.declared.arrived.Arrived.TheVariants as arrived
use Rattle.tier_tree.proofs.{Lines.climbed_same, Safe.last_of, Safe.line_own, Safe.root-parent, Balance.next-parent}
use Rattle.tier_tree.proofs.{Turned.root-root, Stands.root-same, Stands.same-is}

abbrev pub IsTurned : Flat → Type 0
IsTurned f = (f.turned ≡ true) × (f.ended ≡ false)

-- somebody is still to arrive
abbrev pub IsOpen : Flat → Type 0
IsOpen f = (f.ended ≡ false) × ((f.arrived == f.parties) ≡ false)

-- the root is turned now, and waited for somebody before
abbrev pub TurnsIt : Flat → Flat → Type 0
TurnsIt f g = IsTurned g × IsOpen f

above_turned : (a : Arrival) (i r : ℕ) (above : Bool → Climbed) (phasers : List PhaserState) → r ≢ i
    → ((leaves : Bool) → (above leaves).climb ≡ climb.Turned → TurnsIt (flat_at phasers r) (flat_at (above leaves).phasers r))
    → (climbed_by a i false above phasers).climb ≡ climb.Turned → TurnsIt (flat_at phasers r) (flat_at (climbed_by a i false above phasers).phasers r)
above_turned a i r above phasers apart rest is = grind (arith, get_or-set_other)

pub climbed_turned : (above : List ℕ) (i : ℕ) (leave : Bool) (phasers : List PhaserState) → IsForest phasers → i < length phasers
    → (phaser_at phasers i).line ≡ i ∷ above → (climbed (i ∷ above) leave phasers).climb ≡ climb.Turned
    → TurnsIt (flat_at phasers (root_at phasers i)) (flat_at (climbed (i ∷ above) leave phasers).phasers (root_at phasers i))
climbed_turned [] i leave phasers sound there line is = grind (arith, last_of, get_or-set_same)
climbed_turned (q ∷ more) i leave phasers sound there line is =
    let next = next-parent phasers i q more sound there line in
    let below : q < i = next.0 in
    let within : q < length phasers = omega (arith, below, there) in
    let same : root_at phasers i ≡ root_at phasers q = root-parent phasers i q sound within (line ∙ ap (λ (l : List ℕ). i ∷ l) (sym next.1)) in
    let least : root_at phasers q ≤ q = (root-root phasers (phaser_at phasers q).line q sound within refl).1 in
    let apart : root_at phasers q ≢ i = λ eq. absurd (omega (arith, eq, least, below)) in
    subst (λ (n : ℕ). TurnsIt (flat_at phasers n) (flat_at (climbed (i ∷ q ∷ more) leave phasers).phasers n)) (sym same)
    (above_turned (arrive leave (flat_at phasers i)) i (root_at phasers q) (λ leaves. climbed (q ∷ more) leaves phasers) phasers apart
    (λ leaves up. climbed_turned more q leaves phasers sound within next.1 up) is)

-- of a turned phaser all have arrived
abbrev pub IsFull : Flat → Type 0
IsFull f = f.turned ≡ true → f.arrived ≡ f.parties

not_turned : (f : Flat) → IsOpen f → IsFull f → f.turned ≡ false
not_turned f awaits full = grind (arith, same-is)

-- what the answer of an arrival tells of the root
pub turning : (id m : ℕ) (leave : Bool) (phasers after : List PhaserState) (answer : Arrived) → IsForest phasers → id < length phasers
    → root_at phasers id < m → IsFull (flat_at phasers (root_at phasers id))
    → record { phasers = after; answer = answer } ≡ arrival id leave phasers
    → IfTurning answer (λ root. (root.0 < m) × (root.0 ≡ root_at phasers id) × MakesPending root.0 phasers after)
turning id m leave phasers after answer sound there below full is =
    subst (λ (a : Arrives). IfTurning a.answer (λ root. (root.0 < m) × (root.0 ≡ root_at phasers id) × MakesPending root.0 phasers a.phasers))
    (sym is) (by_end (flat_at phasers id).ended)
  where
    own : (above : List ℕ) × ((phaser_at phasers id).line ≡ id ∷ above)
    own = line_own phasers id sound there

    Tells : Arrives → Type 0
    Tells a = IfTurning a.answer (λ root. (root.0 < m) × (root.0 ≡ root_at phasers id) × MakesPending root.0 phasers a.phasers)

    by_climb : (c : Climb) → (climbed (phaser_at phasers id).line leave phasers).climb ≡ c
        → Tells (arrival_by c id (climbed (phaser_at phasers id).line leave phasers).phasers phasers)
    by_climb climb.Counted came = tt
    by_climb climb.Turned came =
        let top = root_at phasers id in
        let all = climbed (phaser_at phasers id).line leave phasers in
        let it : TurnsIt (flat_at phasers top) (flat_at all.phasers top) =
        subst (λ (l : List ℕ). TurnsIt (flat_at phasers top) (flat_at (climbed l leave phasers).phasers top)) (sym own.1)
        (climbed_turned own.0 id leave phasers sound there own.1 (ap (λ (l : List ℕ). (climbed l leave phasers).climb) (sym own.1) ∙ came)) in
        let same : root_at all.phasers top ≡ top =
        root-same phasers all.phasers top (climbed_same (phaser_at phasers id).line leave phasers all.phasers all.climb refl)
        ∙ (root-root phasers (phaser_at phasers id).line id sound there refl).0 in (
          below,
          refl,
          record {
            top = same;
            turned = it.0.0;
            live = it.0.1;
            unturned_before = not_turned (flat_at phasers top) it.1 full;
            live_before = it.1.0;
          },
        )
    by_climb climb.Refused came = tt

    by_end : (ended : Bool) → Tells (if ended then record { phasers = phasers; answer = arrived.Dead (view_of (flat_at phasers id)) }
        else arrival_by (climbed (phaser_at phasers id).line leave phasers).climb id (climbed (phaser_at phasers id).line leave phasers).phasers phasers)
    by_end true = tt
    by_end false = by_climb (climbed (phaser_at phasers id).line leave phasers).climb refl
