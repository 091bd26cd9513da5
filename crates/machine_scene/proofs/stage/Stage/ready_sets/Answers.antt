use Rattle.std.proofs.Common.{rules}
use Rattle.machine_scene.specs.Scene.{scene_of}
use Rattle.machine_scene.proofs.ReadySets.{all_ready}
use Rattle.machine_scene.proofs.stage.Stage.ready_sets.Goals as goal

pub returns : goal.returns
returns c = all_ready c.args.program.now c.loop-u.u c.loop-u.set (scene_of c.args.self.now) c.loop-u.invariant (search rules)
