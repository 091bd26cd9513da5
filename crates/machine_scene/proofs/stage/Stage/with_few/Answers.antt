use Rattle.machine_scene.specs.Scene.{scene_of}
use Rattle.machine_scene.proofs.ReadySets.{few_ready}
use Rattle.machine_scene.proofs.stage.Stage.with_few.Goals as goal

pub returns : goal.returns
returns c =
    few_ready c.args.program.now c.args.t c.args.row c.args.before c.with_interrupted-rest.result c.looked.result
    (scene_of c.args.self.now) c.requires.free c.requires.others c.with_interrupted-rest.ensures c.looked.ensures
