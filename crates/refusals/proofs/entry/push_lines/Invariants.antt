use Rattle.std.proofs.Common.{ℕ, List, take}
use Rattle.std.specs.{Borrow.Bor, List.flat_map, Io.KnownBytes.Appends}
use Rattle.refusals.specs.Entry.{line}
use Rattle.refusals.proofs.entry.push_lines.Given as goal

-- those before are written
abbrev pub invariant-loop-label : goal.invariant-loop-label
invariant-loop-label g l =
    Appends (g.W.Sink.written l.initial.output) (g.W.Sink.written l.output) (flat_map (λ (k : Bor (List ℕ) × Bor (List ℕ)). line k.0.now k.1.now) (take l.label-index l.lines))
