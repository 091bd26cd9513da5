-- What a machine keeps true. Only proofs use this: no promise depends on it.
use Rattle.std.specs.Prelude.{◌≤◌}
use Rattle.machine_scene.specs.{Scene.scene_of, Sound.IsSound, ReadySet.KnowsReady}
use Rattle.thread_machine.specs.World.{StoredWorld}

-- no row uses something that doesn't exist, the stored set of ready threads is right, and the counts are within their limits
pub record IsMachine (world : StoredWorld) : Type 0 where
  pub sound : IsSound world.program world.steps (scene_of world.scene)
  pub ready : KnowsReady world.program world.scene
  pub steps : world.steps ≤ world.limit
  pub limit : world.limit ≤ 1000000000
  pub choices : world.choices ≤ 1000000000000
