-- How a session plays choices up to a breakpoint.
use Rattle.std.specs.Prelude.{◌≡◌, ◌+◌, ◌&&◌, Bool, true, false, List, [], ◌∷◌, ◌++◌, length, slice_index_or, Some, None}
use Rattle.thread_state.specs.Thread.{ThreadState}
use Rattle.machine_scene.specs.{DataRows.runs, Scene.thread_at}
use Rattle.thread_machine.specs.{declared.choice.Choice.Choice, declared.fault.StepFault.StepFault, World.World, World.world_of}
use Rattle.thread_machine.specs.{Ready.is_choice_ready, Step.played, Step.refusal_of, Step.puts_out}
use Rattle.thread_machine.specs.declared.fault.StepFault.TheVariants as fault
use Rattle.debugger.specs.{declared.stop.Stop.Stop, Session.Session, Session.world_after, Moves.AreSteps}
use Rattle.debugger.specs.declared.stop.Stop.TheVariants as stop

-- a running thread is at a breakpoint
abbrev pub is_at_break : List Bool → ThreadState → Bool
is_at_break breaks thread = runs thread.status && slice_index_or breaks thread.pc false

-- the choice, played here, is an effective step that leaves its thread running at a breakpoint
abbrev pub is_break : List Bool → World → Choice → Bool
is_break breaks world choice =
    is_choice_ready world.program choice world.scene
    && is_at_break breaks (thread_at (played world choice).world.scene choice.thread)

-- why a choice is refused; out of memory comes only if there is no other reason
abbrev pub Refuses : World → Choice → StepFault → Type 0
Refuses world choice fault.NoSuchThread = refusal_of world choice ≡ Some fault.NoSuchThread
Refuses world choice fault.StepLimit = refusal_of world choice ≡ Some fault.StepLimit
Refuses world choice fault.Memory = (refusal_of world choice ≡ None) × (puts_out world choice ≡ true)

-- the choices are accepted one after another, and none is a break
abbrev pub PlaysOn : List Bool → World → List Choice → Type 0
PlaysOn breaks world [] = Unit {0}
PlaysOn breaks world (choice ∷ choices) =
    (refusal_of world choice ≡ None) × (is_break breaks world choice ≡ false)
    × PlaysOn breaks (played world choice).world choices

-- all choices were played
pub record Ends (session : Session) (choices : List Choice) (after : Session) : Type 0 where
  pub plays : PlaysOn session.breaks (world_of session.machine) choices
  pub steps : AreSteps session choices after

-- the first choice that is a break was the last that was played
pub record Breaks (session : Session) (choices : List Choice) (after : Session) : Type 0 where
  pub first : List Choice
  pub last : Choice
  pub rest : List Choice
  pub all : choices ≡ first ++ last ∷ rest
  pub plays : PlaysOn session.breaks (world_of session.machine) first
  pub accepted : refusal_of (world_after (world_of session.machine) first) last ≡ None
  pub breaks : is_break session.breaks (world_after (world_of session.machine) first) last ≡ true
  pub steps : AreSteps session (first ++ last ∷ []) after

-- the choice after the first ones was refused
pub record Faults (session : Session) (choices : List Choice) (why : StepFault) (after : Session) : Type 0 where
  pub first : List Choice
  pub refused : Choice
  pub rest : List Choice
  pub all : choices ≡ first ++ refused ∷ rest
  pub plays : PlaysOn session.breaks (world_of session.machine) first
  pub refuses : Refuses (world_after (world_of session.machine) first) refused why
  pub steps : AreSteps session first after

-- how far the choices were played, and how many of them
abbrev pub Stops : Session → List Choice → Stop → Session → Type 0
Stops session choices (stop.End n) after = Ends session choices after × (n ≡ length choices)
Stops session choices (stop.Break n) after = (at : Breaks session choices after) × (n ≡ length at.first + 1)
Stops session choices (stop.Fault n why) after = (at : Faults session choices why after) × (n ≡ length at.first)
