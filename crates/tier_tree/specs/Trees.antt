-- What a caller may carry of the phasers that a forest shows, from call to call. No promise depends on it.
use Rattle.std.specs.Prelude.{ℕ, ◌≤◌, ◌||◌, Bool, List}
use Rattle.packed_phaser.specs.Flat.{Flat}
use Rattle.tier_tree.specs.{Forest.PhaserState, Forest.phaser_at, Origin.Origin, Origin.AreTallied, Sound.IsForest}

-- a phaser whose phase is about to end, or that is terminated: no arrival is its last
abbrev pub is_pending : Flat → Bool
is_pending flat = flat.turned || flat.ended

-- trees that stand for some registrations and arrivals, and none of them has ended more phases than this
pub record AreTrees (most : ℕ) (phasers : List PhaserState) : Type 0 where
  pub forest : IsForest phasers
  pub stands : (origin : Origin) × AreTallied phasers origin
  pub ends : (id : ℕ) → (phaser_at phasers id).ends ≤ most
