use Rattle.std.proofs.Common.{◌∙◌, sym}
use Rattle.machine_scene.specs.Scene.{scene_of}
use Rattle.machine_scene.proofs.ReadySets.{runs_on_ready, looked_ready}
use Rattle.machine_scene.proofs.stage.Stage.look_ahead.Goals as goal

pub returns-then-not-runs_on-clause-known : goal.returns-then-not-runs_on-clause-known
returns-then-not-runs_on-clause-known c =
    looked_ready c.args.program.now c.args.t c.args.self.now.ready c.refresh.new.self.ready (scene_of c.args.self.now)
    c.requires.beside c.refresh.ensures.looked

pub returns-else-not-runs_on-clause-known : goal.returns-else-not-runs_on-clause-known
returns-else-not-runs_on-clause-known c =
    runs_on_ready c.args.program.now c.args.t c.args.self.now.ready (scene_of c.args.self.now)
    c.requires.beside c.requires.turn c.requires.apart (sym c.runs_on.ensures ∙ c.if-not-runs_on.false)
