use Rattle.std.proofs.Common.{Result, Ok, Err, ap, subst, sym}
use Rattle.thread_machine.specs.World.{world_of}
use Rattle.trace_text.specs.{declared.play.PlayFault.PlayFault, declared.run_end.RunEnd.RunEnd, Outcome.Stops}
use Rattle.trace_text.proofs.Streams.{ended, stops, unfinished}
use Rattle.trace_text.proofs.run.run_from.Goals as goal

pub returns-in-Err-clause-outcome : goal.returns-in-Err-clause-outcome
returns-in-Err-clause-outcome g c image begins =
    stops c.in-Err.fault image (world_of c.args.machine.now) _ _ _ _ _ _ begins c.in-Err.ensures.stops

pub returns-in-Ok-push_end-clause-outcome : goal.returns-in-Ok-push_end-clause-outcome
returns-in-Ok-push_end-clause-outcome g c image begins =
    let result : Result RunEnd PlayFault = Ok c.in-Ok-push_end.end in
    let first = world_of c.args.machine.now in
    let last = world_of c.play_stream.new.machine in (
      first,
      (
        begins,
        c.in-Ok-play_stream.ensures.sound,
        ended result first last c.in-Ok-play_stream.refused _ _ _ _ _ c.in-Ok-play_stream.ensures.done
            c.in-Ok-push_end.ensures.tells c.in-Ok-push_end.ensures.state,
      ),
    )

pub returns-clause-outcome : goal.returns-clause-outcome
returns-clause-outcome g c image begins =
    subst (λ f. Stops image f (g.S.Source.left c.args.schedule.now) (g.S.Source.left c.play_stream.new.schedule)
    (g.S.Source.has_failed c.play_stream.new.schedule) (g.W.Sink.written c.args.output.now) (g.W.Sink.written c.push_end.new.output)
    (g.W.Sink.has_failed c.push_end.new.output)) (sym c.of_play.ensures)
    (unfinished c.in-Err-push_end.fault image (world_of c.args.machine.now) (world_of c.play_stream.new.machine)
    c.in-Ok-play_stream.refused _ _ _ _ _ _ _ begins c.in-Ok-play_stream.ensures.done
    c.in-Ok-play_stream.ensures.sound (λ is. c.in-Err-push_end.ensures.memory (ap Err is)) (λ is. c.in-Err-push_end.ensures.write (ap Err is)))
