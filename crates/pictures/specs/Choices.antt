-- The choices of a schedule, and how many a picture has room for.
use Rattle.std.specs.Prelude.{◌≡◌, ◌<◌, ℕ, List, None, length}
use Rattle.schedule_reader.specs.{declared.run.Run.Run, Schedule.choices_of, Schedule.finished_schedule}
use Rattle.thread_machine.specs.declared.choice.Choice.{Choice}

-- the most choices that a drawing shows
abbrev pub most_choices : ℕ
most_choices = 2000

-- the most choices that a page plays
abbrev pub most_page_choices : ℕ
most_page_choices = 1000000

-- a schedule without a fault has these runs
abbrev pub AreRunsOf : List ℕ → List Run → Type 0
AreRunsOf schedule runs = finished_schedule schedule ≡ record { runs = runs; fault = None }

-- the choices of a schedule without a fault
abbrev pub AreChoicesOf : List ℕ → List Choice → Type 0
AreChoicesOf schedule choices = (runs : List Run) × (AreRunsOf schedule runs × (choices ≡ choices_of runs))

-- a schedule has no fault, and more choices than so many
abbrev pub HasMoreChoices : ℕ → List ℕ → Type 0
HasMoreChoices most schedule =
    ((finished_schedule schedule).fault ≡ None) × (most < length (choices_of (finished_schedule schedule).runs))
