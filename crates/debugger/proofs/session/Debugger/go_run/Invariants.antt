use Rattle.std.proofs.Common.{replicate}
use Rattle.debugger.proofs.Goes.{Continues}
use Rattle.debugger.proofs.session.Debugger.go_run.Given as goal

abbrev pub invariant-loop-left : goal.invariant-loop-left
invariant-loop-left l = Continues l.initial.self l.self (replicate l.run.times l.run.choice) (replicate l.left l.run.choice)

abbrev pub decreases-loop-left : goal.decreases-loop-left
decreases-loop-left l = l.left
