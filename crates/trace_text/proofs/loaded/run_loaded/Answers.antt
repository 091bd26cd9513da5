use Rattle.std.proofs.Common.{subst, IfOk}
use Rattle.schedule_reader.specs.Schedule.{choices_of}
use Rattle.thread_machine.specs.World.{World}
use Rattle.trace_text.specs.{RunText.AreTraced, Trace.AppendsPartOf, Trace.lines_of}
use Rattle.trace_text.proofs.Plays.{Part-none}
use Rattle.trace_text.proofs.loaded.run_loaded.Goals as goal

pub returns-in-Ok-clause-traced : goal.returns-in-Ok-clause-traced
returns-in-Ok-clause-traced g c =
    subst (λ (world : World). IfOk c.play_known.result (λ end. AreTraced world (choices_of c.args.runs.now) end
    (g.W.Sink.written c.args.output.now) (g.W.Sink.written c.play_known.new.output)))
    c.in-Ok.ensures c.play_known.ensures.traced

pub returns-in-Ok-clause-memory : goal.returns-in-Ok-clause-memory
returns-in-Ok-clause-memory g c = λ want.
    subst (λ (world : World). AppendsPartOf (g.W.Sink.written c.args.output.now) (g.W.Sink.written c.play_known.new.output)
    (lines_of world (choices_of c.args.runs.now))) c.in-Ok.ensures (c.play_known.ensures.memory want)

pub returns-in-Err-clause-memory : goal.returns-in-Err-clause-memory
returns-in-Err-clause-memory g c = λ want. Part-none _ _
