-- What is saved of a world before a choice, and the world that it restores.
use Rattle.std.specs.Prelude.{◌-◌, ◌<◌, Option, Some, None}
use Rattle.machine_scene.specs.Undo as scene
use Rattle.thread_machine.specs.{World.StoredWorld, Sound.IsMachine}

-- the world before an idle choice, for which nothing is saved, or before the turn or expiry for which this was saved
abbrev pub undone : Option scene.Note → StoredWorld → StoredWorld
undone None world = record world { choices = world.choices - 1 }
undone (Some note) world =
    record world { scene = scene.undone note world.scene; choices = world.choices - 1; steps = world.steps - 1 }

-- the scene can be restored
abbrev pub CanUndoScene : Option scene.Note → StoredWorld → Type 0
CanUndoScene None world = Unit {0}
CanUndoScene (Some note) world = scene.CanUndo note world.scene

-- the record is one of the choice that led to this world
pub record CanUndo (kept : Option scene.Note) (world : StoredWorld) : Type 0 where
  pub counted : 0 < world.choices
  pub scene : CanUndoScene kept world
  pub machine : IsMachine (undone kept world)
