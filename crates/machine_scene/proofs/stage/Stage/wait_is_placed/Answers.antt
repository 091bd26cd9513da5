use Rattle.machine_scene.proofs.Placed.{wait_placed}
use Rattle.machine_scene.proofs.stage.Stage.wait_is_placed.Goals as goal

pub returns : goal.returns
returns c = wait_placed c.args.program.now 2147483647 c.args.row c.args.t c.args.self.now c.requires.sound c.requires.thread c.requires.row
