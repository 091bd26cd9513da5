use Rattle.std.proofs.Common.{ℕ, ◌<◌, slice_index_or}
use Rattle.row_code.specs.{declared.phasers.DeclaredPhaser.DeclaredPhaser, Phasers.IsPhaser}
use Rattle.row_code.proofs.phasers.are_all_phasers.Given as goal

abbrev pub invariant-loop-phaser : goal.invariant-loop-phaser
invariant-loop-phaser l = (k : ℕ) → (d : DeclaredPhaser) → k < l.phaser-index → IsPhaser (slice_index_or l.phasers k d)
