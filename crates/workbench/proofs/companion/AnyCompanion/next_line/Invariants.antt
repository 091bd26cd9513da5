use Rattle.std.proofs.Common.{◌≡◌, ◌+◌, length}
use Rattle.std.specs.Io.KnownBytes.{Consumes}
use Rattle.workbench.specs.Debug.{HasNoEnd}
use Rattle.workbench.proofs.companion.AnyCompanion.next_line.Given as goal

-- the bytes so far are what the source gave, one a read, and none is an LF
abbrev pub invariant-loop-reads : goal.invariant-loop-reads
invariant-loop-reads g l = record {
  given : Consumes (g.S.Source.left l.fn.self) (g.S.Source.left l.self) l.line.items;
  no_end : HasNoEnd l.line.items;
  counted : length l.line.items + l.reads ≡ l.fn.reads;
}

abbrev pub decreases-loop-reads : goal.decreases-loop-reads
decreases-loop-reads g l = l.reads
