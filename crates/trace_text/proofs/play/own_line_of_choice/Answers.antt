use Rattle.std.proofs.Common.{◌+◌, sym}
use Rattle.thread_machine.specs.World.{world_of}
use Rattle.trace_text.proofs.Plays.{played-counted, Plays-played, refusal_of-accepted}
use Rattle.trace_text.proofs.play.own_line_of_choice.Goals as goal

pub returns-in-Ok-clause-played : goal.returns-in-Ok-clause-played
returns-in-Ok-clause-played c = λ _.
    let world = world_of c.args.machine.now in
    let accepted = refusal_of-accepted c.in-Ok.event world c.args.choice c.in-Ok.ensures.no_thread c.in-Ok.ensures.limit in
    Plays-played _ _ _ c.in-Ok.event _ _ _ _ accepted c.in-Ok.ensures.played
    (sym (played-counted world (world_of c.step.new.self) c.args.choice c.in-Ok.event c.in-Ok.ensures.played)) c.pc-pc.ensures.row
    (c.put_played.ensures.text (world.choices + 1))
