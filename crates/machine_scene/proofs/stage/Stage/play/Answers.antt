use Rattle.machine_scene.proofs.{Steady.others_ready, Undoing.turn_played}
use Rattle.machine_scene.proofs.stage.Stage.play.Goals as goal

pub returns-in-Ok-clause-ok : goal.returns-in-Ok-clause-ok
returns-in-Ok-clause-ok c =
    turn_played c.args.row c.args.program.now c.args.t c.args.self.now c.play_by_status.new.self c.in-Ok.event c.requires.row
    c.requires.sound c.requires.thread c.phasers_are_stored.ensures c.in-Ok.ensures.ok c.play_by_status.ensures.phasers

pub returns-in-Ok-clause-others : goal.returns-in-Ok-clause-others
returns-in-Ok-clause-others c = λ keeps quiet.
    others_ready c.args.program.now c.args.t c.args.row c.args.self.now c.play_by_status.new.self c.in-Ok.event keeps
    c.in-Ok.ensures.ok c.play_by_status.ensures.phasers quiet
