-- An arrival at one phaser of a forest.
use Rattle.std.specs.Prelude.{ℕ, pos, ◌==◌, Bool, true, false, if◌then◌else◌, List, [], ◌∷◌}
use Rattle.packed_phaser.specs.Flat.{Flat, Arrival, Counts, Turns, ComesLate, IsUnregistered, arrive, vacate, view_of}
use Rattle.tier_tree.specs.declared.{climb.Climb.Climb, arrived.Arrived.Arrived}
use Rattle.tier_tree.specs.Forest.{PhaserState, phaser_at, flat_at, root_at, with_flat}
use Rattle.tier_tree.specs.declared.climb.Climb.TheVariants as climb
use Rattle.tier_tree.specs.declared.arrived.Arrived.TheVariants as arrived

-- the forest after an arrival, and how far the arrival came
pub record Climbed : Type 0 where
  pub phasers : List PhaserState
  pub climb : Climb

-- there is none above
abbrev pub is_top : List ℕ → Bool
is_top [] = true
is_top (id ∷ above) = false

-- a child that waits for nobody has arrived above; one without parties has left there, and is empty
abbrev pub passed_on : Flat → Flat
passed_on flat = if flat.parties == 0 then vacate flat else flat

-- if no phaser above refuses, a child whose parties have all arrived counts them
abbrev pub with_child : ℕ → Flat → Climb → List PhaserState → Climbed
with_child id flat climb.Counted above = record { phasers = with_flat above id (passed_on flat); climb = climb.Counted }
with_child id flat climb.Turned above = record { phasers = with_flat above id (passed_on flat); climb = climb.Turned }
with_child id flat climb.Refused above = record { phasers = above; climb = climb.Refused }

-- what follows from the arrival at one phaser: if all have arrived, a root is turned, and a child arrives above, or leaves
-- there if it has no party left
abbrev pub climbed_by : Arrival → ℕ → Bool → (Bool → Climbed) → List PhaserState → Climbed
climbed_by (Counts flat) id top above phasers = record { phasers = with_flat phasers id flat; climb = climb.Counted }
climbed_by (Turns flat) id true above phasers = record { phasers = with_flat phasers id flat; climb = climb.Turned }
climbed_by (Turns flat) id false above phasers =
    let rest = above (flat.parties == 0) in with_child id flat rest.climb rest.phasers
climbed_by (ComesLate view) id top above phasers = record { phasers = phasers; climb = climb.Refused }
climbed_by IsUnregistered id top above phasers = record { phasers = phasers; climb = climb.Refused }

-- an arrival at the first phaser of the line
abbrev pub climbed : List ℕ → Bool → List PhaserState → Climbed
climbed [] leave phasers = record { phasers = phasers; climb = climb.Refused }
climbed (id ∷ above) leave phasers =
    climbed_by (arrive leave (flat_at phasers id)) id (is_top above) (λ leaves. climbed above leaves phasers) phasers

-- the forest after an arrival, and its result
pub record Arrives : Type 0 where
  pub phasers : List PhaserState
  pub answer : Arrived

-- by how far the arrival came; a refused one changes no phaser
abbrev pub arrival_by : Climb → ℕ → List PhaserState → List PhaserState → Arrives
arrival_by climb.Counted id after phasers = record { phasers = after; answer = arrived.At (pos (flat_at phasers id).phase) }
arrival_by climb.Turned id after phasers =
    let root = root_at phasers id in
    record {
      phasers = after;
      answer = arrived.Turning (record { 0 = root }) (pos (flat_at phasers id).phase) (flat_at after root).parties;
    }
arrival_by climb.Refused id after phasers = record { phasers = phasers; answer = arrived.NotThere }

-- an arrival at this phaser by a party that also leaves if the flag says so
abbrev pub arrival : ℕ → Bool → List PhaserState → Arrives
arrival id leave phasers =
    let flat = flat_at phasers id in
    if flat.ended then record { phasers = phasers; answer = arrived.Dead (view_of flat) }
    else (let all = climbed (phaser_at phasers id).line leave phasers in arrival_by all.climb id all.phasers phasers)
