-- How far a plan has been played, and how one choice changes that.
use Rattle.std.specs.Prelude.{ℕ, ◌+◌, ◌-◌, ◌==◌, if◌then◌else◌, Bool, true, false, List, [], ◌∷◌, ◌++◌, Option, Some, None}
use Rattle.loader.specs.Program.{Program}
use Rattle.thread_machine.specs.declared.{choice.Choice.Choice, fault.StepFault.StepFault}
use Rattle.thread_machine.specs.{World.World, World.first_world, Step.played, Step.refusal_of}

-- the world, the choices that led to it, the number behind the thread that was chosen last, how many choices there may be
-- yet, and whether one was wanted for which none was left
pub record Progress : Type 0 where
  pub world : World
  pub choices : List Choice
  pub after_last : ℕ
  pub left : ℕ
  pub stopped : Bool

-- before the first of 1,000,000 choices, from this world on
unfoldable pub begun_at : World → Progress
begun_at world = record {
  world = world;
  choices = [];
  after_last = 0;
  left = 1000000;
  stopped = false;
}

-- before the first of so many choices, from a program's first world on
unfoldable pub begun : Program → (most : ℕ) → Progress
begun program most = record (begun_at (first_world program 1000000000)) { left = most }

-- a choice that the program refuses isn't made: there is no such thread
abbrev pub chosen_by : Option StepFault → Choice → Progress → Progress
chosen_by (Some fault) choice progress = progress
chosen_by None choice progress = record {
  world = (played progress.world choice).world;
  choices = progress.choices ++ choice ∷ [];
  after_last = choice.thread + 1;
  left = progress.left - 1;
  stopped = progress.stopped;
}

-- one more choice, if one is left
unfoldable pub chosen : Choice → Progress → Progress
chosen choice progress =
    if progress.left == 0 then record progress { stopped = true }
    else chosen_by (refusal_of progress.world choice) choice progress
