use Rattle.std.proofs.Common.{◌≡◌, ◌++◌, ℕ, List, take, flat_map}
use Rattle.std.specs.Borrow.{Bor}
use Rattle.pictures.proofs.page.add_tail.Given as goal

abbrev pub invariant-loop-piece : goal.invariant-loop-piece
invariant-loop-piece l =
    l.page.items ≡ l.initial.page.items ++ flat_map (λ (piece : Bor (List ℕ)). piece.now) (take l.piece-index l.tail)
