use Rattle.std.proofs.Common.{◌-◌, length}
use Rattle.trace_compare.specs.Comparing.{GoesOver, IsReading}
use Rattle.trace_compare.proofs.comparison.Comparison.take_own_lines.Given as goal

abbrev pub invariant-loop-done : goal.invariant-loop-done
invariant-loop-done l = GoesOver l.initial.self l.self l.bytes l.done × IsReading l.self

abbrev pub decreases-loop-done : goal.decreases-loop-done
decreases-loop-done l = length l.bytes - l.done
