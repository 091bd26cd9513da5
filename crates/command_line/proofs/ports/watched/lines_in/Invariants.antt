use Rattle.std.proofs.Common.{ℕ, ◌≡◌, ◌==◌, ◌+◌, length, count_by}
use Rattle.command_line.proofs.ports.watched.lines_in.Given as goal

-- the lines that end in the bytes before, and those that end in what is left
abbrev pub invariant-loop-left : goal.invariant-loop-left
invariant-loop-left l = l.lines + count_by (λ (byte : ℕ). byte == 10) l.left ≡ count_by (λ (byte : ℕ). byte == 10) l.bytes

abbrev pub decreases-loop-left : goal.decreases-loop-left
decreases-loop-left l = length l.left
