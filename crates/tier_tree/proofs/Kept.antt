-- What a call keeps of the trees: places, and how many phases have ended.
use Rattle.std.proofs.Common.{◌≡◌, ℕ, zero, suc, Bool, List, [], ◌∷◌, ◌++◌, map, refl, arith}
use Rattle.packed_phaser.specs.Flat.{Flat, Arrival, arrive}
use Rattle.tier_tree.specs.Forest.{PhaserState, phaser_at, flat_at, root_at, with_flat}
use Rattle.tier_tree.specs.{Registration.Join, Registration.joined, Registration.after_registration, Sound.places_of}
use Rattle.tier_tree.specs.Arrival.{arrival, Climbed, is_top, climbed_by, climbed}
use Rattle.tier_tree.specs.{PhaseEnd.terminated, PhaseEnd.after_force, Answer.KeepsPlaces, Answer.KeepsEnds}
use Rattle.tier_tree.proofs.Stands.{root-same}

pub keeps_places : (before after : List PhaserState) → places_of after ≡ places_of before → KeepsPlaces before after
keeps_places before after same = record { places = same; roots = λ id. root-same before after id same }

-- a climb ends no phase
with_flat-ends : (phasers : List PhaserState) (id n : ℕ) (flat : Flat) → (phaser_at (with_flat phasers id flat) n).ends ≡ (phaser_at phasers n).ends
with_flat-ends [] id n flat = refl
with_flat-ends (p ∷ phasers) zero zero flat = refl
with_flat-ends (p ∷ phasers) zero (suc n) flat = refl
with_flat-ends (p ∷ phasers) (suc id) zero flat = refl
with_flat-ends (p ∷ phasers) (suc id) (suc n) flat = with_flat-ends phasers id n flat

climbed_by-ends : (a : Arrival) (id n : ℕ) (top : Bool) (above : Bool → Climbed) (phasers : List PhaserState)
    → ((leave : Bool) → (phaser_at (above leave).phasers n).ends ≡ (phaser_at phasers n).ends)
    → (phaser_at (climbed_by a id top above phasers).phasers n).ends ≡ (phaser_at phasers n).ends
climbed_by-ends a id n top above phasers rest = grind (arith, with_flat-ends)

pub climbed-ends : (line : List ℕ) (leave : Bool) (phasers : List PhaserState) (n : ℕ)
    → (phaser_at (climbed line leave phasers).phasers n).ends ≡ (phaser_at phasers n).ends
climbed-ends [] leave phasers n = refl
climbed-ends (id ∷ above) leave phasers n =
    climbed_by-ends (arrive leave (flat_at phasers id)) id n (is_top above) (λ leaves. climbed above leaves phasers) phasers
    (λ leaves. climbed-ends above leaves phasers n)

pub arrival-ends : (id : ℕ) (leave : Bool) (phasers : List PhaserState) → KeepsEnds phasers (arrival id leave phasers).phasers
arrival-ends id leave phasers n = grind (arith, climbed-ends)

pub joined-ends : (all : List Join) (phasers : List PhaserState) → KeepsEnds phasers (joined all phasers)
joined-ends [] phasers n = refl
joined-ends (join ∷ others) phasers n = grind (arith, with_flat-ends, joined-ends others phasers n)

pub registration-ends : (id count : ℕ) (phasers : List PhaserState) → KeepsEnds phasers (after_registration id count phasers)
registration-ends id count phasers n = grind (arith, joined-ends)

terminated-ends : (root : ℕ) (phasers : List PhaserState) → KeepsEnds phasers (map (terminated root) phasers)
terminated-ends root (p ∷ phasers) (suc n) = terminated-ends root phasers n
terminated-ends root phasers n = grind arith

pub force-ends : (id : ℕ) (phasers : List PhaserState) → KeepsEnds phasers (after_force id phasers)
force-ends id phasers n = terminated-ends (root_at phasers id) phasers n

-- one more phaser, which has ended no phase
pub push-ends : (phasers : List PhaserState) (new : PhaserState) → new.ends ≡ 0 → KeepsEnds phasers (phasers ++ new ∷ [])
push-ends [] new none zero = none
push-ends (p ∷ phasers) new none (suc n) = push-ends phasers new none n
push-ends _ new none _ = refl
