-- While the phase of a tree is about to end, nobody can register or arrive.
use Rattle.std.specs.Prelude.{◌≡◌, ◌⊎◌, ℕ, ◌<◌, Bool, true, false, List, length}
use Rattle.tier_tree.specs.declared.registered.Registered.TheVariants as registered
use Rattle.tier_tree.specs.declared.arrived.Arrived.TheVariants as arrived
use Rattle.tier_tree.specs.{Forest.PhaserState, Forest.flat_at, Forest.root_at, Registration.registration, Arrival.arrival}
use Rattle.tier_tree.specs.Origin.{Origin, AreTallied}

-- in a tree whose root is turned and that had no stray arrival, every registration of somebody is held or too many, and every
-- arrival is refused
abbrev pub NobodyComesBetween : List PhaserState → Type 0
NobodyComesBetween phasers =
    (origin : Origin) (id : ℕ) → AreTallied phasers origin → id < length phasers → origin.stray (root_at phasers id) ≡ false
    → (flat_at phasers (root_at phasers id)).turned ≡ true
    → ((count : ℕ) → 0 < count → (registration id count phasers ≡ registered.Held) ⊎ (registration id count phasers ≡ registered.TooMany))
    × ((leave : Bool) → (arrival id leave phasers).answer ≡ arrived.NotThere)
