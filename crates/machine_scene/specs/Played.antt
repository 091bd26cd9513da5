-- What the turn of a thread, or the expiry of its wait, does to the stage.
use Rattle.std.specs.Prelude.{◌≡◌, ℕ, ◌+◌, ◌<◌, length, Option, Some}
use Rattle.loader.specs.Program.{Program}
use Rattle.thread_state.specs.declared.event.Event.{Event}
use Rattle.machine_scene.specs.{Scene.StoredScene, Scene.Outcome, Scene.scene_of, Sound.IsSound, Sound.most_after}
use Rattle.machine_scene.specs.Undo.{CanUndo, note_of, undone}

-- the scene and the event are those of this outcome; a sound scene stays sound, one step later; what was saved of thread t
-- before restores the scene, to the stored word; and the number of threads is the same
pub record IsPlayed (outcome : Option Outcome) (t : ℕ) (program : Program) (old : StoredScene) (new : StoredScene) (event : Event) : Type 0 where
  pub outcome_is : outcome ≡ Some (record { scene = scene_of new; event = event })
  pub sound : (steps : ℕ) → steps < most_after → IsSound program steps (scene_of old) → IsSound program (steps + 1) (scene_of new)
  pub undo : undone (note_of t program old) new ≡ old
  pub can : CanUndo (note_of t program old) new
  pub threads : length new.threads ≡ length old.threads
