-- The choices of a session that were played and not taken back.
use Rattle.std.specs.Prelude.{◌≡◌, ℕ, ◌-◌, List, [], ◌∷◌, ◌++◌, length, take, Option, Some, None}
use Rattle.thread_machine.specs.{declared.choice.Choice.Choice, declared.fault.StepFault.StepFault, Step.refusal_of}
use Rattle.thread_machine.specs.World.{StoredWorld, world_of}
use Rattle.schedule_reader.specs.Schedule.{choices_of}
use Rattle.debugger.specs.{Session.Session, Command.Order, Command.Step, Command.Go, Command.Back}

-- behind a choice, by whether it is refused
abbrev pub with_step : Option StepFault → List Choice → Choice → List Choice
with_step (Some fault) choices choice = choices
with_step None choices choice = choices ++ choice ∷ []

-- behind a step back, by the past
abbrev pub without_last : List StoredWorld → List Choice → List Choice
without_last [] choices = choices
without_last (world ∷ past) choices = take (length choices - 1) choices

-- behind a command, where these did before it: `s` adds its choice, unless it is refused, `g` the first of its own, and `b` takes
-- the last one away
abbrev pub Stands : Session → List Choice → Order → List Choice → Type 0
Stands session choices (Step choice) now = now ≡ with_step (refusal_of (world_of session.machine) choice) choices choice
Stands session choices (Go runs) now = (n : ℕ) × (now ≡ choices ++ take n (choices_of runs))
Stands session choices Back now = now ≡ without_last session.past choices
Stands session choices order now = now ≡ choices
