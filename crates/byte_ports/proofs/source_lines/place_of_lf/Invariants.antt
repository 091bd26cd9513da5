use Rattle.std.proofs.Common.{◌≤◌, ◌-◌, length, take}
use Rattle.byte_ports.specs.SourceLines.{IsOneLine}
use Rattle.byte_ports.proofs.source_lines.place_of_lf.Given as goal

-- none of the bytes that were looked at is an LF
abbrev pub invariant-loop-at : goal.invariant-loop-at
invariant-loop-at l = record { order : l.fn.seen ≤ l.at; within : l.at ≤ length l.bytes; one : IsOneLine (take l.at l.bytes) }

abbrev pub decreases-loop-at : goal.decreases-loop-at
decreases-loop-at l = length l.bytes - l.at

abbrev pub invariant-loop-at-2 : goal.invariant-loop-at-2
invariant-loop-at-2 l = record { order : l.fn.seen ≤ l.at; within : l.at ≤ length l.bytes; one : IsOneLine (take l.at l.bytes) }

abbrev pub decreases-loop-at-2 : goal.decreases-loop-at-2
decreases-loop-at-2 l = length l.bytes - l.at
