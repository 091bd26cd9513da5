use Rattle.std.proofs.Common.{◌≡◌, length, map}
use Rattle.line_reader.specs.{Seen.name_seen, Words.words_in}
use Rattle.plans.specs.{Drafts.draft_of, Plan.words_behind, Words.spread, Words.words_of}
use Rattle.plans.proofs.draft.Reading.add_line.Given as goal

-- behind the words so far the rest of the line stands as all of it behind none
abbrev pub invariant-loop-rest : goal.invariant-loop-rest
invariant-loop-rest l =
    words_behind (map name_seen l.names) l.line (draft_of l.self) (words_in (spread l.rest))
    ≡ words_behind (map name_seen l.names) l.line (draft_of l.initial.self) (words_of l.bytes)

abbrev pub decreases-loop-rest : goal.decreases-loop-rest
decreases-loop-rest l = length l.rest
