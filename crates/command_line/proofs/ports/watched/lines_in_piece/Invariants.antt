use Rattle.std.proofs.Common.{◌≡◌, ◌==◌, take, count_by}
use Rattle.command_line.proofs.ports.watched.lines_in_piece.Given as goal

-- the lines that end in the bytes so far
abbrev pub invariant-loop-byte : goal.invariant-loop-byte
invariant-loop-byte l = l.lines ≡ count_by (λ byte. byte == 10) (take l.byte-index l.bytes)
