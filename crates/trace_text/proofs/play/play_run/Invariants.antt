use Rattle.std.proofs.Common.{replicate}
use Rattle.thread_machine.specs.World.{world_of}
use Rattle.trace_text.proofs.Plays.{Continues}
use Rattle.trace_text.proofs.play.play_run.Given as goal

abbrev pub invariant-loop-left : goal.invariant-loop-left
invariant-loop-left g l =
    Continues (world_of l.initial.machine) (world_of l.machine) (replicate l.run.times l.run.choice) (replicate l.left l.run.choice)
    (g.W.Sink.written l.initial.output) (g.W.Sink.written l.output)

abbrev pub decreases-loop-left : goal.decreases-loop-left
decreases-loop-left g l = l.left
