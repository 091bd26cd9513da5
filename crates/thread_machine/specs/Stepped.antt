-- What `step`, `step_into` and `step_noting` promise of the machine.
use Rattle.std.specs.Prelude.{◌≡◌, ◌≢◌, ◌↔◌, ◌+◌, ◌<◌, length, true, Option, Some, None, Result, Err, IfOk, OnOk, OnErr, if◌then◌else◌}
use Rattle.tier_tree.specs.{Origin.Origin, Origin.AreTallied, Stored.phasers_of}
use Rattle.thread_state.specs.declared.event.Event.{Event}
use Rattle.machine_scene.specs.Scene.{scene_of}
use Rattle.machine_scene.specs.Undo as scene
use Rattle.thread_machine.specs.{declared.choice.Choice.Choice, declared.fault.StepFault.StepFault, Ready.is_choice_ready}
use Rattle.thread_machine.specs.{World.StoredWorld, World.world_of, Step.played, Step.refusal_of, Step.puts_out}
use Rattle.thread_machine.specs.DirectCounts.{counts_after, ChoiceEndsNoPhaseEarly, NumbersStay}
use Rattle.thread_machine.specs.Undo.{undone, CanUndo}
use Rattle.thread_machine.specs.declared.fault.StepFault.TheVariants as fault

-- the choice is played, and what is saved of the world before undoes it; or it is refused for its reason, and nothing has
-- changed. It is out of memory only if it puts out a value. The direct counts go on, no phase ends early by them, and the
-- number of a phase changes only when the phase ends
pub record IsStep (old : StoredWorld) (choice : Choice) (result : Result Event StepFault) (kept : Option scene.Note) (new : StoredWorld) : Type 0 where
  pub played : IfOk result (λ event. record { world = world_of new; event = event } ≡ played (world_of old) choice)
  pub undo : OnOk result (undone kept new ≡ old)
  pub can : OnOk result (CanUndo kept new)
  pub no_thread : (result ≡ Err fault.NoSuchThread) ↔ (refusal_of (world_of old) choice ≡ Some fault.NoSuchThread)
  pub limit : (result ≡ Err fault.StepLimit) ↔ (refusal_of (world_of old) choice ≡ Some fault.StepLimit)
  pub accepted : OnOk result (refusal_of (world_of old) choice ≡ None)
  pub memory : result ≡ Err fault.Memory → puts_out (world_of old) choice ≡ true
  pub threads : length new.scene.threads ≡ length old.scene.threads
  pub counts : OnOk result ((counts : Origin) → AreTallied (phasers_of old.scene.phasers) counts
      → AreTallied (phasers_of new.scene.phasers) (counts_after (world_of old) choice (world_of new) counts))
  pub safe : OnOk result ((counts : Origin) → AreTallied (phasers_of old.scene.phasers) counts
      → ChoiceEndsNoPhaseEarly (world_of old) choice (world_of new) counts)
  pub numbers : OnOk result (NumbersStay (phasers_of old.scene.phasers) (phasers_of new.scene.phasers))
  pub err : OnErr result (new ≡ old)

-- what is to be saved of the world before a choice: nothing if it is idle
abbrev pub kept_of : Choice → StoredWorld → Option scene.Note
kept_of choice old =
    if is_choice_ready old.program choice (scene_of old.scene) then Some (scene.note_of choice.thread old.program old.scene)
    else None

-- the form in which the machine's own functions say it to each other; nobody else has to read it
pub record HasPlayed (old : StoredWorld) (choice : Choice) (result : Result Event StepFault) (new : StoredWorld) : Type 0 where
  pub played : IfOk result (λ event. record { world = world_of new; event = event } ≡ played (world_of old) choice)
  pub idle : OnOk result (new.steps ≡ old.steps → new ≡ record old { choices = old.choices + 1 })
  pub undo : OnOk result (new.steps ≢ old.steps
      → undone (Some (scene.note_of choice.thread old.program old.scene)) new ≡ old)
  pub can : OnOk result (new.steps ≢ old.steps
      → scene.CanUndo (scene.note_of choice.thread old.program old.scene) new.scene)
  pub counted : OnOk result (0 < new.choices)
  pub no_thread : (result ≡ Err fault.NoSuchThread) ↔ (refusal_of (world_of old) choice ≡ Some fault.NoSuchThread)
  pub limit : (result ≡ Err fault.StepLimit) ↔ (refusal_of (world_of old) choice ≡ Some fault.StepLimit)
  pub there : OnOk result (choice.thread < length old.scene.threads)
  pub accepted : OnOk result (refusal_of (world_of old) choice ≡ None)
  pub memory : result ≡ Err fault.Memory → puts_out (world_of old) choice ≡ true
  pub threads : length new.scene.threads ≡ length old.scene.threads
  pub err : OnErr result (new ≡ old)
