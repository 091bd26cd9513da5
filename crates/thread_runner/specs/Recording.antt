-- A machine, given by the world in which it began and the choices since then.
use Rattle.std.specs.Prelude.{ℕ, List, [], ◌∷◌, ◌++◌}
use Rattle.schedule_reader.specs.Schedule.{choices_of, finished_schedule}
use Rattle.thread_machine.specs.{declared.choice.Choice.Choice, World.World, World.first_world, Execution.execution}

-- the world before the first choice, and the choices in order
pub record Recording : Type 0 where
  pub first : World
  pub choices : List Choice

-- the world that the choices lead to
abbrev pub recorded_world : Recording → World
recorded_world recording = (execution recording.first recording.choices).world

-- nothing was chosen yet
abbrev pub begun : World → Recording
begun first = record { first = first; choices = [] }

-- what a schedule names was chosen
abbrev pub recording_of : World → List ℕ → Recording
recording_of first schedule = record { first = first; choices = choices_of (finished_schedule schedule).runs }

-- one choice more
abbrev pub with_choice : Choice → Recording → Recording
with_choice choice recording = record recording { choices = recording.choices ++ choice ∷ [] }

-- an empty world: it stands for the first world of a run that doesn't say where it begins
abbrev pub no_world : World
no_world = first_world (record { rows = []; threads = []; phasers = []; routines = []; barriers = []; actions = [] }) 0
