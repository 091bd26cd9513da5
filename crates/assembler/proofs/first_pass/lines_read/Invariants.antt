use Rattle.std.proofs.Common.{◌≡◌, ◌+◌, ◌≤◌, [], length, take, drop, Ok}
use Rattle.line_reader.specs.Words.{lines_of}
use Rattle.assembler.specs.Passes.{lines_read}
use Rattle.assembler.proofs.first_pass.lines_read.Given as goal

-- the lines before are read, and the rest holds the others
abbrev pub invariant-loop-rest : goal.invariant-loop-rest
invariant-loop-rest l = record {
  met : lines_read 1 [] (take l.number (lines_of l.text)) ≡ Ok l.draft;
  left : lines_of l.rest ≡ drop l.number (lines_of l.text);
  count : l.number ≤ length (lines_of l.text);
  room : l.number + length l.rest ≤ length l.text;
}

abbrev pub decreases-loop-rest : goal.decreases-loop-rest
decreases-loop-rest l = length l.rest
