-- A climb changes no phase and terminates nobody.
use Rattle.std.proofs.Common.{◌≡◌, ℕ, zero, suc, Bool, true, false, List, ◌∷◌, refl, arith}
use Rattle.packed_phaser.specs.Flat.{Flat, Arrival, Counts, Turns, ComesLate, IsUnregistered, arrive, view_of}
use Rattle.tier_tree.specs.{Forest.PhaserState, Forest.flat_at, Forest.with_flat, Arrival.passed_on}

-- the phase, and whether it is terminated
abbrev pub IsAsLate : Flat → Flat → Type 0
IsAsLate f g = (f.phase ≡ g.phase) × (f.ended ≡ g.ended)

-- an arrival that is counted finds a phaser that isn't terminated, and leaves its phase; one that comes late finds one that is
abbrev pub IsArrival : Flat → Arrival → Type 0
IsArrival f (Counts g) = IsAsLate g f × (f.ended ≡ false)
IsArrival f (Turns g) = IsAsLate g f × (f.ended ≡ false)
IsArrival f (ComesLate view) = (view ≡ view_of f) × (f.ended ≡ true)
IsArrival f IsUnregistered = f.ended ≡ false

pub found : (leave : Bool) (f : Flat) (a : Arrival) → a ≡ arrive leave f → IsArrival f a
found leave f a is = grind arith

-- other counts of the same phase
pub with_flat-late : (phasers : List PhaserState) (id n : ℕ) (flat : Flat) → IsAsLate flat (flat_at phasers id)
    → IsAsLate (flat_at (with_flat phasers id flat) n) (flat_at phasers n)
with_flat-late (p ∷ phasers) zero zero flat late = late
with_flat-late (p ∷ phasers) (suc id) (suc n) flat late = with_flat-late phasers id n flat late
with_flat-late _ _ _ flat late = (refl, refl)

pub passed_on-late : (f : Flat) → IsAsLate (passed_on f) f
passed_on-late f = grind arith
