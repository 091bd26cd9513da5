use Rattle.std.proofs.Common.{drop, take}
use Rattle.schedule_reader.specs.Schedule.{choices_of}
use Rattle.debugger.proofs.Goes.{Continues}
use Rattle.debugger.proofs.session.Debugger.go_some.Given as goal

abbrev pub invariant-loop-run : goal.invariant-loop-run
invariant-loop-run l = Continues l.initial.self l.self (take l.most (choices_of l.runs)) (take l.left (choices_of (drop l.run-index l.runs)))
