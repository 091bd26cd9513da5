-- A schedule that is shown with a token for choices that repeat.
use Rattle.std.proofs.Common.{◌≡◌, ℕ, List, arith, None}
use Rattle.schedule_reader.specs.Schedule.{choices_of, finished_schedule}
use Rattle.thread_machine.specs.World.{World}
use Rattle.thread_runner.specs.Replay.{IsReplayOfText}

-- a schedule of the same choices is of the same run
pub same_replay : (first : World) (text shown : List ℕ) (world : World) → (finished_schedule shown).fault ≡ None
    → choices_of (finished_schedule shown).runs ≡ choices_of (finished_schedule text).runs
    → IsReplayOfText first text world → IsReplayOfText first shown world
same_replay first text shown world none same replay = grind arith
