use Rattle.std.proofs.Common.{drop}
use Rattle.schedule_reader.specs.Schedule.{choices_of}
use Rattle.thread_machine.specs.World.{world_of}
use Rattle.trace_text.proofs.Plays.{Continues}
use Rattle.trace_text.proofs.play.play_runs.Given as goal

abbrev pub invariant-loop-run : goal.invariant-loop-run
invariant-loop-run g l =
    Continues (world_of l.initial.machine) (world_of l.machine) (choices_of l.runs) (choices_of (drop l.run-index l.runs))
    (g.W.Sink.written l.initial.output) (g.W.Sink.written l.output)
