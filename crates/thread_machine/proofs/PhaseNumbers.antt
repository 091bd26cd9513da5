-- The number of a phase changes only as the phase ends.
use Rattle.std.proofs.Common.{◌≡◌, ℕ, suc, ◌==◌, Bool, false, List, ◌∷◌, map, ap, arith, get_or-set_other}
use Rattle.tier_tree.specs.{Forest.PhaserState, Forest.phaser_at, Forest.flat_at, Forest.root_at, Arrival.arrival}
use Rattle.tier_tree.specs.Registration.{after_registration}
use Rattle.tier_tree.specs.PhaseEnd.{in_step, after_phase_end, terminated, after_force}
use Rattle.tier_tree.proofs.Stands.{same-is}
use Rattle.machine_scene.proofs.Standings.{Standing, registration-standings, arrival-standings}

-- each phaser is in the phase of the same number
abbrev pub KeepsNumbers : List PhaserState → List PhaserState → Type 0
KeepsNumbers before after = (id : ℕ) → (flat_at after id).phase ≡ (flat_at before id).phase

-- a registration, and an arrival
pub registration-numbers : (id count : ℕ) (phasers : List PhaserState) → KeepsNumbers phasers (after_registration id count phasers)
registration-numbers id count phasers q = ap (λ (s : Standing). s.phase) (registration-standings id count phasers q)

pub arrival-numbers : (id : ℕ) (leave : Bool) (phasers : List PhaserState) → KeepsNumbers phasers (arrival id leave phasers).phasers
arrival-numbers id leave phasers q = ap (λ (s : Standing). s.phase) (arrival-standings id leave phasers q)

-- a termination
terminated-numbers : (root : ℕ) (phasers : List PhaserState) → KeepsNumbers phasers (map (terminated root) phasers)
terminated-numbers root (p ∷ phasers) (suc q) = terminated-numbers root phasers q
terminated-numbers root phasers q = grind arith

pub force-numbers : (id : ℕ) (phasers : List PhaserState) → KeepsNumbers phasers (after_force id phasers)
force-numbers id phasers q = terminated-numbers (root_at phasers id) phasers q

-- the end of a phase leaves the other trees' phasers
in_step-aside : (root phase : ℕ) (ended : Bool) (phasers : List PhaserState) (q : ℕ) → (root_at phasers q == root) ≡ false
    → phaser_at (map (in_step root phase ended) phasers) q ≡ phaser_at phasers q
in_step-aside root phase ended (p ∷ phasers) (suc q) apart = in_step-aside root phase ended phasers q apart
in_step-aside root phase ended phasers q apart = grind arith

pub turn-number : (root : ℕ) (ends : Bool) (phasers : List PhaserState) (q : ℕ) → root_at phasers root ≡ root
    → (root_at phasers q == root) ≡ false → (flat_at (after_phase_end root ends phasers) q).phase ≡ (flat_at phasers q).phase
turn-number root ends phasers q top apart = grind (arith, same-is, get_or-set_other, in_step-aside)
