use Rattle.std.proofs.Common.{sym, subst}
use Rattle.schedule_reader.specs.Schedule.{choices_of}
use Rattle.thread_machine.specs.World.{world_of}
use Rattle.trace_text.specs.Trace.{AppendsPartOf, lines_of}
use Rattle.trace_text.proofs.{Plays.Part-whole, Streams.are_traced}
use Rattle.trace_text.proofs.loaded.play_known.Goals as goal

pub returns-in-Ok-clause-traced : goal.returns-in-Ok-clause-traced
returns-in-Ok-clause-traced g c =
    are_traced c.push_end.result (world_of c.args.machine.now) (world_of c.play_runs.new.machine) (choices_of c.args.runs.now)
    c.in-Ok.refused _ _ _ c.in-Ok.ensures.plays c.push_end.ensures.tells c.push_end.ensures.state

pub returns-in-Ok-clause-memory : goal.returns-in-Ok-clause-memory
returns-in-Ok-clause-memory g c = λ want.
    let lines = lines_of (world_of c.args.machine.now) (choices_of c.args.runs.now) in
    let old = g.W.Sink.written c.args.output.now in
    subst (λ out. AppendsPartOf old out lines) (sym (c.push_end.ensures.memory want))
    (Part-whole old _ lines c.in-Ok.ensures.plays.lines)
