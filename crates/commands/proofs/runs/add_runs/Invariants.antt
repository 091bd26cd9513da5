use Rattle.std.proofs.Common.{◌≡◌, List, length, All}
use Rattle.thread_machine.specs.World.{first_world}
use Rattle.commands.specs.Outcomes.{AreOutcomes, Ended, IsEndedFrom}
use Rattle.commands.proofs.runs.add_runs.Given as goal

-- so many runs came to the outcomes
abbrev pub invariant-loop-number : goal.invariant-loop-number
invariant-loop-number g l =
    (runs : List Ended) × ((length runs ≡ l.number)
    × All (IsEndedFrom (first_world l.fn.program l.fn.limit)) runs × AreOutcomes runs l.outcomes.entries)
