-- What follows of a choice that was played: what undoes it, and how the direct counts go on.
use Rattle.std.proofs.Common.{◌≡◌, ◌≢◌, ◌+◌, ◌<◌, Bool, true, false, length, refl, sym, subst, arith, if◌then◌else◌, Option, Some, None, Result, Ok, Err}
use Rattle.thread_state.specs.declared.event.Event.{Event}
use Rattle.machine_scene.specs.Scene.{scene_of}
use Rattle.machine_scene.specs.Undo as scene
use Rattle.thread_machine.specs.{declared.choice.Choice.Choice, declared.fault.StepFault.StepFault, World.StoredWorld}
use Rattle.thread_machine.specs.{Ready.is_choice_ready, Sound.IsMachine, Undo.undone, Undo.CanUndo}
use Rattle.thread_machine.specs.Stepped.{IsStep, HasPlayed, kept_of}
use Rattle.thread_machine.proofs.{Sound.idle_undone, SafeEnds.step_keeps, SafeEnds.result_numbers}

-- a choice takes a step just where it is ready
steps_after : (old new : StoredWorld) (choice : Choice) (event : Event) (ready : Bool) → is_choice_ready old.program choice (scene_of old.scene) ≡ ready
    → HasPlayed old choice (Ok event) new → new.steps ≡ (if ready then old.steps + 1 else old.steps)
steps_after old new choice event ready is has = grind arith

-- it undoes the choice
record IsUndone (old : StoredWorld) (kept : Option scene.Note) (new : StoredWorld) : Type 0 where
  pub undo : undone kept new ≡ old
  pub can : CanUndo kept new

idle_back : (old new : StoredWorld) → new ≡ record old { choices = old.choices + 1 } → undone None new ≡ old
idle_back old new is = grind arith

undone_by : (ready : Bool) (old new : StoredWorld) (choice : Choice) (event : Event)
    → is_choice_ready old.program choice (scene_of old.scene) ≡ ready → IsMachine old → HasPlayed old choice (Ok event) new
    → IsUndone old (if ready then Some (scene.note_of choice.thread old.program old.scene) else None) new
undone_by true old new choice event is machine has =
    let steps : new.steps ≡ old.steps + 1 = steps_after old new choice event true is has in
    let apart : new.steps ≢ old.steps = omega (arith, steps) in
    record {
      undo = has.undo apart;
      can = record { counted = has.counted; scene = has.can apart; machine = subst IsMachine (sym (has.undo apart)) machine };
    }
undone_by false old new choice event is machine has =
    let same = has.idle (steps_after old new choice event false is has) in
    record { undo = idle_back old new same; can = idle_undone old new machine same }

-- what is to be saved, from its parts
pub kept_by : (ready : Bool) (note : scene.Note) (choice : Choice) (old : StoredWorld)
    → ready ≡ is_choice_ready old.program choice (scene_of old.scene) → note ≡ scene.note_of choice.thread old.program old.scene
    → (if ready then Some note else None) ≡ kept_of choice old
kept_by ready note choice old is_ready is_note = cc

-- a choice that was played is a step, whatever is kept of one that was refused
pub step_is : (result : Result Event StepFault) (old new : StoredWorld) (choice : Choice) (kept : Option scene.Note) → IsMachine old
    → HasPlayed old choice result new → (choice.thread < length old.scene.threads → kept ≡ kept_of choice old) → IsStep old choice result kept new
step_is (Ok event) old new choice kept machine has is =
    subst (λ (note : Option scene.Note). IsStep old choice (Ok event) note new) (sym (is has.there))
    (let back = undone_by (is_choice_ready old.program choice (scene_of old.scene)) old new choice event refl machine has in
    record {
      played = has.played;
      undo = back.undo;
      can = back.can;
      no_thread = has.no_thread;
      limit = has.limit;
      accepted = has.accepted;
      memory = has.memory;
      threads = has.threads;
      counts = λ counts stands. (step_keeps old new event choice counts machine has.there has.played stands).counts;
      safe = λ counts stands. (step_keeps old new event choice counts machine has.there has.played stands).safe;
      numbers = result_numbers (Ok event) old new choice machine has.there has.played;
      err = tt;
    })
step_is (Err fault) old new choice kept machine has is = grind arith
