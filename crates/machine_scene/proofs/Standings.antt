-- Registrations and arrivals leave each phaser in its phase, and terminate none.
use Rattle.std.proofs.Common.{◌≡◌, ℕ, zero, suc, ◌+◌, ◌-◌, ◌==◌, Bool, true, false, List, [], ◌∷◌, refl, if◌then◌else◌, arith}
use Rattle.packed_phaser.specs.Flat.{Flat, Arrival, Counts, Turns, ComesLate, IsUnregistered, arrive, settled, view_of}
use Rattle.tier_tree.specs.Forest.{PhaserState, flat_at, with_flat}
use Rattle.tier_tree.specs.Registration.{Join, joined, after_registration}
use Rattle.tier_tree.specs.Arrival.{Climbed, is_top, climbed_by, climbed, arrival}

-- what a phaser's view tells: the number of its phase, and whether it is terminated
pub record Standing : Type 0 where
  pub phase : ℕ
  pub ended : Bool

abbrev pub standing_of : Flat → Standing
standing_of flat = record { phase = flat.phase; ended = flat.ended }

-- each phaser is in the phase of the same number, and terminated if it was
abbrev pub KeepsStandings : List PhaserState → List PhaserState → Type 0
KeepsStandings before after = (id : ℕ) → standing_of (flat_at after id) ≡ standing_of (flat_at before id)

with_flat-standing : (phasers : List PhaserState) (i : ℕ) (flat : Flat) → standing_of flat ≡ standing_of (flat_at phasers i)
    → KeepsStandings phasers (with_flat phasers i flat)
with_flat-standing (p ∷ phasers) zero flat is zero = is
with_flat-standing (p ∷ phasers) (suc i) flat is (suc q) = with_flat-standing phasers i flat is q
with_flat-standing _ _ flat is _ = refl

-- a registration
joined-standings : (all : List Join) (phasers : List PhaserState) → KeepsStandings phasers (joined all phasers)
joined-standings [] phasers q = refl
joined-standings (join ∷ others) phasers q = grind (arith, with_flat-standing, joined-standings others phasers q)

pub registration-standings : (id count : ℕ) (phasers : List PhaserState) → KeepsStandings phasers (after_registration id count phasers)
registration-standings id count phasers q = grind (arith, joined-standings)

-- what an arrival makes of one phaser is in the same phase
abbrev IsIn : Standing → Arrival → Type 0
IsIn standing (Counts g) = standing_of g ≡ standing
IsIn standing (Turns g) = standing_of g ≡ standing
IsIn standing (ComesLate view) = Unit {0}
IsIn standing IsUnregistered = Unit {0}

arrive_standing : (ended none leave : Bool) (f less more : Flat) (view : _) → standing_of less ≡ standing_of f → standing_of more ≡ standing_of f
    → IsIn (standing_of f) (if ended then ComesLate view else (if none then IsUnregistered else (if leave then settled less else settled more)))
arrive_standing true none leave f less more view a b = tt
arrive_standing false _ leave f less more view a b = grind arith

climbed_by-standings : (a : Arrival) (id : ℕ) (top : Bool) (above : Bool → Climbed) (phasers : List PhaserState)
    → IsIn (standing_of (flat_at phasers id)) a → ((leave : Bool) → KeepsStandings phasers (above leave).phasers)
    → KeepsStandings phasers (climbed_by a id top above phasers).phasers
climbed_by-standings a id top above phasers is rest q = grind (arith, with_flat-standing)

climbed-standings : (line : List ℕ) (leave : Bool) (phasers : List PhaserState) → KeepsStandings phasers (climbed line leave phasers).phasers
climbed-standings [] leave phasers q = refl
climbed-standings (id ∷ above) leave phasers q =
    let f = flat_at phasers id in
    climbed_by-standings (arrive leave f) id (is_top above) (λ leaves. climbed above leaves phasers) phasers
    (arrive_standing f.ended (f.arrived == f.parties) leave f (record f { parties = f.parties - 1 }) (record f { arrived = f.arrived + 1 }) (view_of f) refl refl)
    (λ leaves. climbed-standings above leaves phasers) q

pub arrival-standings : (id : ℕ) (leave : Bool) (phasers : List PhaserState) → KeepsStandings phasers (arrival id leave phasers).phasers
arrival-standings id leave phasers q = grind (arith, climbed-standings)
