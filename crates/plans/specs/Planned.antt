-- The result of playing a plan: its schedule, and the state of the machine after it.
use Rattle.std.specs.Prelude.{◌≡◌, ℕ, All, List}
use Rattle.loader.specs.Program.{Program}
use Rattle.thread_machine.specs.World.{World, world_of}
use Rattle.schedule_reader.specs.{Joined.AreJoined, Schedule.IsRun, Schedule.choices_of, declared.run.Run.Run}
use Rattle.plans.specs.{Tree.Plan, Tree.words_of_plan, declared.word.Word.Word, declared.planned.Planned.Planned, Play.plays}
use Rattle.plans.specs.Progress.{Progress, begun, begun_at}

-- runs that tokens can spell, joined where they can be
pub record AreRuns (runs : List Run) : Type 0 where
  pub spelled : All IsRun runs
  pub joined : AreJoined runs

-- the choices that were made, the world that they lead to, and whether the limit of choices cut the plan
pub record Shows (planned : Planned) (progress : Progress) : Type 0 where
  pub choices : choices_of planned.runs.items ≡ progress.choices
  pub world : world_of planned.machine ≡ progress.world
  pub stopped : planned.stopped ≡ progress.stopped

-- whatever plan is written as these words, this is what it plays from this world on
abbrev pub IsPlanAt : World → List Word → Planned → Type 0
IsPlanAt world words planned = (plan : Plan) → words_of_plan plan ≡ words → Shows planned (plays plan (begun_at world))

-- what is planned from a program's first world on, of so many choices at most
abbrev pub IsPlanOf : Program → (most : ℕ) → List Word → Planned → Type 0
IsPlanOf program most words planned = (plan : Plan) → words_of_plan plan ≡ words → Shows planned (plays plan (begun program most))
