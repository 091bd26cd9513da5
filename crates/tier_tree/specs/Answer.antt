-- What a result means for the caller, and what a call leaves unchanged.
use Rattle.std.specs.Prelude.{◌≡◌, ℕ, ◌<◌, true, false, List, length}
use Rattle.tier_tree.specs.declared.{id.PhaserId.PhaserId, registered.Registered.Registered, arrived.Arrived.Arrived}
use Rattle.tier_tree.specs.Forest.{PhaserState, phaser_at, flat_at, root_at}
use Rattle.tier_tree.specs.Sound.{place_of, places_of}
use Rattle.tier_tree.specs.declared.registered.Registered.TheVariants as registered
use Rattle.tier_tree.specs.declared.arrived.Arrived.TheVariants as arrived

-- nobody was registered: the call was refused, or for nobody
abbrev pub DoesntJoin : Registered → ℕ → Type 0
DoesntJoin (registered.At phase) count = count ≡ 0
DoesntJoin (registered.Dead view) count = Unit {0}
DoesntJoin registered.Held count = Unit {0}
DoesntJoin registered.TooMany count = Unit {0}

-- the arrival wasn't counted
abbrev pub DoesntArrive : Arrived → Type 0
DoesntArrive (arrived.At phase) = ⊥
DoesntArrive (arrived.Turning root phase parties) = ⊥
DoesntArrive (arrived.Dead view) = Unit {0}
DoesntArrive arrived.NotThere = Unit {0}

-- what is said of the root, if the arrival was the last one of its tree
abbrev pub IfTurning : Arrived → (PhaserId → Type 0) → Type 0
IfTurning (arrived.At phase) P = Unit {0}
IfTurning (arrived.Turning root phase parties) P = P root
IfTurning (arrived.Dead view) P = Unit {0}
IfTurning arrived.NotThere P = Unit {0}

-- the phase end of this root is pending, and wasn't before
pub record MakesPending (root : ℕ) (before : List PhaserState) (after : List PhaserState) : Type 0 where
  pub top : root_at after root ≡ root
  pub turned : (flat_at after root).turned ≡ true
  pub live : (flat_at after root).ended ≡ false
  pub unturned_before : (flat_at before root).turned ≡ false
  pub live_before : (flat_at before root).ended ≡ false

-- the trees stay: each phaser has its line and its policy
pub record KeepsPlaces (before : List PhaserState) (after : List PhaserState) : Type 0 where
  pub places : places_of after ≡ places_of before
  pub roots : (id : ℕ) → root_at after id ≡ root_at before id

-- there may be more phasers: those that were there keep their lines and policies
abbrev pub AddsPlace : List PhaserState → List PhaserState → Type 0
AddsPlace before after =
    (id : ℕ) → id < length before → place_of (phaser_at after id) ≡ place_of (phaser_at before id)

-- no phase has ended
abbrev pub KeepsEnds : List PhaserState → List PhaserState → Type 0
KeepsEnds before after = (id : ℕ) → (phaser_at after id).ends ≡ (phaser_at before id).ends

-- the phaser of this number is in its root's phase, and terminated if its root is
pub record FollowsRoot (id : ℕ) (phasers : List PhaserState) : Type 0 where
  pub phase : (flat_at phasers id).phase ≡ (flat_at phasers (root_at phasers id)).phase
  pub ended : (flat_at phasers id).ended ≡ (flat_at phasers (root_at phasers id)).ended

-- each phaser is
abbrev pub HaveOnePhase : List PhaserState → Type 0
HaveOnePhase phasers = (id : ℕ) → id < length phasers → FollowsRoot id phasers
