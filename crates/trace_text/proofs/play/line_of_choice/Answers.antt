use Rattle.thread_machine.specs.World.{world_of}
use Rattle.trace_text.proofs.Plays.{Plays-played, refusal_of-accepted}
use Rattle.trace_text.proofs.play.line_of_choice.Goals as goal

pub returns-in-Ok : goal.returns-in-Ok
returns-in-Ok c =
    let accepted = refusal_of-accepted c.in-Ok.event (world_of c.args.machine.now) c.args.choice
    c.in-Ok.ensures.no_thread c.in-Ok.ensures.limit in
    Plays-played _ _ _ c.in-Ok.event _ _ _ _ accepted
    c.in-Ok.ensures.played c.choices.ensures.choices c.pc-pc.ensures.row c.put_event.ensures
