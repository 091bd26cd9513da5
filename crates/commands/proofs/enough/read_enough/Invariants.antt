use Rattle.std.proofs.Common.{◌≤◌, length}
use Rattle.std.specs.Io.KnownBytes.{Consumes}
use Rattle.commands.proofs.enough.read_enough.Given as goal

-- the bytes so far are what the source gave, at least one a turn
abbrev pub invariant-loop : goal.invariant-loop
invariant-loop g l = record {
  given : Consumes (g.S.Source.left l.fn.source) (g.S.Source.left l.source) l.front;
  few : length l.front ≤ 16777216;
  counted : l.counter ≤ length l.front;
}
