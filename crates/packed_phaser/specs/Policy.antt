-- What `onAdvance` returns.
use Rattle.std.specs.Prelude.{ℕ, pos, ◌==◌, ◌||◌, int_le, Bool, false, Option, Some, None}
use Rattle.packed_phaser.specs.declared.policy.Policy.{Policy}
use Rattle.packed_phaser.specs.declared.policy.Policy.TheVariants as policy

-- whether the end of this phase, with this many registered parties, terminates the phaser; a
-- routine isn't known here
abbrev pub ends : Policy → ℕ → ℕ → Option Bool
ends policy.Default phase parties = Some (parties == 0)
ends policy.Never phase parties = Some false
ends (policy.Until k) phase parties = Some (int_le k (pos phase) || (parties == 0))
ends policy.Routine phase parties = None
