use Rattle.std.proofs.Common.{◌≡◌, ◌+◌, ◌≤◌, length, map}
use Rattle.std.specs.List.{slice_split}
use Rattle.line_reader.specs.{Seen.name_seen, Words.is_line_end}
use Rattle.plans.specs.{Drafts.draft_of, Plan.lines_behind}
use Rattle.plans.proofs.draft.Reading.add_lines.Given as goal

-- behind the lines so far the rest of the text stands as all of it behind none
abbrev pub invariant-loop-fault : goal.invariant-loop-fault
invariant-loop-fault l = record {
  few : l.line + length l.rest ≤ length l.text + 1;
  lines : lines_behind (map name_seen l.names) l.line (draft_of l.self) (slice_split is_line_end l.rest)
      ≡ lines_behind (map name_seen l.names) 1 (draft_of l.initial.self) (slice_split is_line_end l.text);
}

abbrev pub decreases-loop-fault : goal.decreases-loop-fault
decreases-loop-fault l = length l.rest
