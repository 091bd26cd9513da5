-- What a call at a phaser can change in its forest, whatever the call returns.
use Rattle.std.specs.Prelude.{ℕ, List}
use Rattle.tier_tree.specs.{Answer.KeepsPlaces, Origin.Origin, Origin.Carries}
use Rattle.tier_tree.specs.Stored.{Stored, ChangedAt, phasers_of}

-- only words from this phaser up to its root may differ; each phaser keeps its line and its policy; and if the forest stood for
-- some counts, it now stands for what the call makes of them
pub record IsCall (id : ℕ) (next : Origin → Origin) (before : List Stored) (after : List Stored) : Type 0 where
  pub only : ChangedAt id before after
  pub places : KeepsPlaces (phasers_of before) (phasers_of after)
  pub origin : Carries next (phasers_of before) (phasers_of after)
