use Rattle.std.proofs.Common.{drop}
use Rattle.schedule_reader.specs.Schedule.{choices_of}
use Rattle.debugger.proofs.Goes.{Continues}
use Rattle.debugger.proofs.session.Debugger.go_runs.Given as goal

abbrev pub invariant-loop-run : goal.invariant-loop-run
invariant-loop-run l = Continues l.initial.self l.self (choices_of l.runs) (choices_of (drop l.run-index l.runs))
