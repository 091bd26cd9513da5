use Rattle.std.proofs.Common.{◌≡◌, ◌-◌, length}
use Rattle.std.specs.List.{slice_get}
use Rattle.line_reader.specs.Words.{lines_of}
use Rattle.assembler.proofs.word_place.line_at.Given as goal

-- the line that is looked for stands among those of the rest
abbrev pub invariant-loop-rest : goal.invariant-loop-rest
invariant-loop-rest l = slice_get (lines_of l.text) (l.fn.number - 1) ≡ slice_get (lines_of l.rest) l.left

abbrev pub decreases-loop-rest : goal.decreases-loop-rest
decreases-loop-rest l = length l.rest
