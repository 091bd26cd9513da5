-- What is true of every record, and of its text.
use Rattle.std.specs.Prelude.{◌≡◌, ◌≤◌, ◌++◌, ℕ, All, List, length, None}
use Rattle.thread_machine.specs.{declared.choice.Choice.Choice, World.World, Execution.execution}
use Rattle.schedule_reader.specs.{Record.IsNamed, Record.record_text, Schedule.choices_of, Schedule.finished_schedule}
use Rattle.thread_runner.specs.{declared.fault.LiveFault.LiveFault, Turns.AreDue}
use Rattle.thread_runner.specs.Recording.{Recording, recording_of, recorded_world}
use Rattle.thread_runner.specs.declared.fault.LiveFault.TheVariants as fault

-- the choices, played from the first world, lead to this one; each was accepted and took a step, so that none was idle and
-- they are at most as many as the limit; and each was one that its thread had to make
pub record IsReplay (recording : Recording) (world : World) : Type 0 where
  pub leads : recorded_world recording ≡ world
  pub accepted : (execution recording.first recording.choices).refusal ≡ None
  pub due : AreDue recording.first recording.choices
  pub choices : world.choices ≡ length recording.choices
  pub steps : world.steps ≡ length recording.choices
  pub limit : world.limit ≡ recording.first.limit
  pub within : length recording.choices ≤ recording.first.limit
  pub threads : length world.scene.threads ≡ length recording.first.scene.threads

-- a text without a fault, with such choices
pub record IsReplayOfText (first : World) (text : List ℕ) (world : World) : Type 0 where
  pub fault : (finished_schedule text).fault ≡ None
  pub replay : IsReplay (recording_of first text) world

-- such a text in which each choice is a token of its own, with one space between them
pub record IsRecordOf (first : World) (text : List ℕ) (world : World) : Type 0 where
  pub text_is : text ≡ record_text (recording_of first text).choices
  pub named : All IsNamed (recording_of first text).choices
  pub replay : IsReplayOfText first text world

-- out of memory, it left all choices of this record, and perhaps more behind them
abbrev pub HasKept : Recording → LiveFault → Type 0
HasKept recording (fault.Memory left) =
    (more : List Choice) × (choices_of (finished_schedule left).runs ≡ recording.choices ++ more)
HasKept recording fault.Spawn = Unit {0}

-- what a run that was broken off left: out of memory, the record of what was played until then
abbrev pub HasLeft : World → LiveFault → Type 0
HasLeft first (fault.Memory left) = (world : World) × IsRecordOf first left world
HasLeft first fault.Spawn = Unit {0}
