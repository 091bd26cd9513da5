-- What a list of choices does to the world.
use Rattle.std.specs.Prelude.{List, [], ◌∷◌, ◌++◌, Option, Some, None}
use Rattle.thread_machine.specs.{declared.choice.Choice.Choice, declared.fault.StepFault.StepFault, World.World}
use Rattle.thread_machine.specs.Step.{Played, played, refusal_of}
use Rattle.thread_state.specs.declared.event.Event.{Event}

-- the world after the last accepted choice, the events so far, and why the choice after them was refused, if it was
pub record Execution : Type 0 where
  pub world : World
  pub events : List Event
  pub refusal : Option StepFault

-- a choice that is refused is the last; an accepted choice comes before the rest
abbrev pub execution_by : Option StepFault → World → Choice → (World → Execution) → Execution
execution_by (Some fault) world choice rest = record { world = world; events = []; refusal = Some fault }
execution_by None world choice rest =
    let play : Played = played world choice in
    let later : Execution = rest play.world in
    record { world = later.world; events = play.event ∷ later.events; refusal = later.refusal }

-- the choices in order, up to the first that is refused
abbrev pub execution : World → List Choice → Execution
execution world [] = record { world = world; events = []; refusal = None }
execution world (choice ∷ choices) =
    execution_by (refusal_of world choice) world choice (λ after. execution after choices)

-- one more choice after an execution: it does nothing if a choice was refused before, and otherwise it is refused or played
abbrev pub extended_by : Option StepFault → Option StepFault → Execution → Choice → Execution
extended_by (Some before) now done choice = done
extended_by None (Some fault) done choice = record done { refusal = Some fault }
extended_by None None done choice =
    let play : Played = played done.world choice in
    record { world = play.world; events = done.events ++ play.event ∷ []; refusal = None }

-- the same, by what the execution left
abbrev pub extended : Execution → Choice → Execution
extended done choice = extended_by done.refusal (refusal_of done.world choice) done choice
