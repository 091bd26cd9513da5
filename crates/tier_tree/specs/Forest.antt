-- A forest: the list of its phasers in the order of declaration.
use Rattle.std.specs.Prelude.{ℕ, ◌-◌, List, [], length, slice_index_or, slice_set}
use Rattle.packed_phaser.specs.{declared.policy.Policy.Policy, Flat.Flat, Flat.fresh}
use Rattle.packed_phaser.specs.declared.policy.Policy.TheVariants as policy

-- one phaser: the numbers of itself, its parent, its parent's parent and so on up to its root; what its policy is; its
-- phase and counts as those of a phaser without tiers; and, of a root, how many phases of its tree have ended
pub record PhaserState : Type 0 where
  pub line : List ℕ
  pub policy : Policy
  pub flat : Flat
  pub ends : ℕ

-- a phaser that no forest has
abbrev pub no_phaser : PhaserState
no_phaser = record { line = []; policy = policy.Default; flat = fresh 0 0; ends = 0 }

-- the phaser of this number
abbrev pub phaser_at : List PhaserState → ℕ → PhaserState
phaser_at phasers id = slice_index_or phasers id no_phaser

-- its phase and counts
abbrev pub flat_at : List PhaserState → ℕ → Flat
flat_at phasers id = (phaser_at phasers id).flat

-- the number of its root, which is the last of its line
abbrev pub root_of : PhaserState → ℕ
root_of phaser = slice_index_or phaser.line (length phaser.line - 1) 0

-- the number of the root of the phaser of this number
abbrev pub root_at : List PhaserState → ℕ → ℕ
root_at phasers id = root_of (phaser_at phasers id)

-- the forest with another phase and other counts of one phaser
abbrev pub with_flat : List PhaserState → ℕ → Flat → List PhaserState
with_flat phasers id flat = slice_set phasers id (record (phaser_at phasers id) { flat = flat })
