use Rattle.std.proofs.Common.{◌≡◌, List, length, map}
use Rattle.line_reader.specs.Seen.{name_seen}
use Rattle.commands.specs.{Outcomes.AreOutcomes, Outcomes.Ended, Seeds.AreEndsBy, Seeds.IsFirstUnlike}
use Rattle.commands.proofs.seeds.counted.Given as goal

-- so many orders came to the outcomes, and the first of them that ended otherwise is kept
abbrev pub invariant-loop-number : goal.invariant-loop-number
invariant-loop-number l =
    (runs : List Ended) × ((length runs ≡ l.number)
    × AreEndsBy l.fn.program (map name_seen l.fn.names) l.fn.plan l.fn.seeds.limit l.fn.seeds.first runs × AreOutcomes runs l.outcomes.entries
    × IsFirstUnlike l.fn.seeds.expected.now runs l.unlike)
