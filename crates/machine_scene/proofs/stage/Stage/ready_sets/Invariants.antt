use Rattle.machine_scene.specs.Scene.{scene_of}
use Rattle.machine_scene.proofs.ReadySets.{AreAllLooked}
use Rattle.machine_scene.proofs.stage.Stage.ready_sets.Given as goal

-- the threads so far are looked at
abbrev pub invariant-loop-u : goal.invariant-loop-u
invariant-loop-u l = AreAllLooked l.program l.u l.set (scene_of l.self)
