use Rattle.std.proofs.Common.{◌≡◌, length, map, take}
use Rattle.command_line.specs.Shown.{shown_for}
use Rattle.command_line.proofs.ports.printable.put_shown.Given as goal

-- the bytes so far are shown
abbrev pub invariant-loop-at : goal.invariant-loop-at
invariant-loop-at l = record {
  room : length l.piece ≡ length l.fn.piece;
  shown : take l.at l.piece ≡ map shown_for (take l.at l.bytes);
}
