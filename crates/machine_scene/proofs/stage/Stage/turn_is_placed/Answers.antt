use Rattle.machine_scene.proofs.Placed.{turn_placed}
use Rattle.machine_scene.proofs.stage.Stage.turn_is_placed.Goals as goal

pub returns : goal.returns
returns c = turn_placed c.args.program.now c.args.row c.args.t c.args.self.now c.requires.sound c.requires.thread c.requires.row
