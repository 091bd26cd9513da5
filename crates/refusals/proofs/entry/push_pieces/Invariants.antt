use Rattle.std.proofs.Common.{ℕ, List, take}
use Rattle.std.specs.{Borrow.Bor, List.flat_map, Io.KnownBytes.Appends}
use Rattle.refusals.proofs.entry.push_pieces.Given as goal

-- those before are written
abbrev pub invariant-loop-piece : goal.invariant-loop-piece
invariant-loop-piece g l =
    Appends (g.W.Sink.written l.initial.output) (g.W.Sink.written l.output) (flat_map (λ (p : Bor (List ℕ)). p.now) (take l.piece-index l.pieces))
