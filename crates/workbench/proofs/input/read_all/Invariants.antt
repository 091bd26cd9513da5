use Rattle.std.proofs.Common.{◌≤◌, ◌+◌, vec_len}
use Rattle.std.specs.Io.KnownBytes.{Consumes}
use Rattle.workbench.proofs.input.read_all.Given as goal

-- the bytes so far are what the source gave, at least one a turn
abbrev pub invariant-loop : goal.invariant-loop
invariant-loop g l = record {
  given : Consumes (g.S.Source.left l.fn.source) (g.S.Source.left l.source) l.bytes.items;
  few : vec_len l.bytes ≤ 16777216;
  counted : l.counter ≤ vec_len l.bytes;
  reads : g.S.Source.reads l.source ≤ g.S.Source.reads l.fn.source + l.counter;
}
