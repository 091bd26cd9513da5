use Rattle.thread_machine.specs.World.{world_of}
use Rattle.trace_text.proofs.Plays.{Plays-one, refusal_of-accepted}
use Rattle.trace_text.proofs.play.play_choice.Goals as goal

pub returns-in_ok-push_event-in-Ok-clause-plays : goal.returns-in_ok-push_event-in-Ok-clause-plays
returns-in_ok-push_event-in-Ok-clause-plays g c =
    let accepted = refusal_of-accepted c.in-Ok.event (world_of c.args.machine.now) c.args.choice
    c.in-Ok.ensures.no_thread c.in-Ok.ensures.limit in
    Plays-one _ _ _ c.in-Ok.event _ _ _ _ accepted
    c.in-Ok.ensures.played c.choices.ensures.choices c.pc-pc.ensures.row c.in_ok-push_event-in-Ok.ensures.line
