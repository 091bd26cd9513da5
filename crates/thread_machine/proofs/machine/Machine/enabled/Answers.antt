use Rattle.std.proofs.Common.{rules}
use Rattle.machine_scene.specs.Scene.{scene_of}
use Rattle.thread_machine.proofs.Enabled.{all_turns, all_expiries}
use Rattle.thread_machine.proofs.machine.Machine.enabled.Goals as goal

pub returns-clause-turns : goal.returns-clause-turns
returns-clause-turns c =
    all_turns c.args.self.now.program c.loop-t.t c.loop-t.turns (scene_of c.args.self.now.scene) c.loop-t.invariant.0 (search rules)

pub returns-clause-expiries : goal.returns-clause-expiries
returns-clause-expiries c =
    all_expiries c.args.self.now.program c.loop-t.t c.loop-t.expiries (scene_of c.args.self.now.scene) c.loop-t.invariant.1 (search rules)
