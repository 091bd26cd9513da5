use Rattle.machine_scene.specs.Scene.{scene_of}
use Rattle.machine_scene.proofs.{Readiness.expired, Reaches.within_same, Steady.others_ready_late, Undoing.expiry_played}
use Rattle.machine_scene.proofs.stage.Stage.run_out.Goals as goal

pub returns-clause-ok : goal.returns-clause-ok
returns-clause-ok c =
    expiry_played c.args.program.now c.args.t c.args.self.now c.run_out_by_status.new.self c.run_out_by_status.result c.requires.sound c.requires.thread
    c.phasers_are_stored.ensures
    (expired c.args.row c.args.t c.args.program.now (scene_of c.args.self.now) _ c.requires.row c.requires.ready c.run_out_by_status.ensures.outcome)
    (within_same _ _ _ c.run_out_by_status.ensures.phasers)

pub returns-clause-others : goal.returns-clause-others
returns-clause-others c = λ keeps quiet.
    others_ready_late c.args.program.now c.args.t c.args.row c.args.self.now c.run_out_by_status.new.self c.run_out_by_status.result keeps
    c.run_out_by_status.ensures.outcome c.run_out_by_status.ensures.phasers quiet
