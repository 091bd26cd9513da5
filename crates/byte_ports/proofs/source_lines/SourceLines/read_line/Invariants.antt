use Rattle.std.proofs.Common.{◌≡◌, ◌⊎◌, ◌≤◌, ◌+◌, ◌-◌, ◌++◌, ℕ, List, false, length, take}
use Rattle.std.specs.Io.KnownBytes.{Keeps, prepend_known}
use Rattle.byte_ports.specs.SourceLines.{EndsInAPiece, IsOneLine}
use Rattle.byte_ports.proofs.source_lines.SourceLines.read_line.Given as goal

-- nothing was taken yet, and there is no LF in what was seen
abbrev pub invariant-loop-held : goal.invariant-loop-held
invariant-loop-held g l = record {
  bytes : Keeps (prepend_known l.fn.self.held (g.S.Source.left l.fn.source)) (prepend_known l.self.held (g.S.Source.left l.source));
  one : IsOneLine (take l.seen l.self.held);
  within : l.seen ≤ length l.self.held;
  few : l.seen ≤ 65536;
  given : l.self.reads + length l.fn.self.held ≤ l.fn.self.reads + length l.self.held;
  far : (g.S.Source.left l.source ≡ g.S.Source.left l.fn.source) ⊎ EndsInAPiece l.self.held;
  behind : (got : List ℕ) × (l.self.held ≡ l.fn.self.held ++ got);
  sound : g.S.Source.has_failed l.fn.source ≡ false → g.S.Source.has_failed l.source ≡ false;
  reads : g.S.Source.reads l.source + l.fn.self.reads ≤ g.S.Source.reads l.fn.source + l.self.reads;
}

-- each piece that isn't the last has a byte, and there is room for so many
abbrev pub decreases-loop-held : goal.decreases-loop-held
decreases-loop-held g l = 81921 - length l.self.held
