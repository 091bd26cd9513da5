use Rattle.std.proofs.Common.{◌≡◌, ◌++◌}
use Rattle.pictures.specs.Sheet.{blanks}
use Rattle.pictures.proofs.fitting.push_blanks.Given as goal

abbrev pub invariant-loop-left : goal.invariant-loop-left
invariant-loop-left l = l.text.items ++ blanks l.left ≡ l.initial.text.items ++ blanks l.count

abbrev pub decreases-loop-left : goal.decreases-loop-left
decreases-loop-left l = l.left
