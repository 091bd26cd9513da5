use Rattle.std.proofs.Common.{◌≡◌, ℕ, List, ◌+◌, ◌-◌, codes}
use Rattle.pictures.specs.Picture.{in_block, name_cell, with_cells}
use Rattle.pictures.proofs.line.names_line.Given as goal

abbrev pub invariant-loop-n : goal.invariant-loop-n
invariant-loop-n l =
    let cell : ℕ → List ℕ = λ n. name_cell l.pen.sheet l.pen.symbols.now (l.first + n) in
    let count = in_block l.pen.sheet l.threads l.first in
    with_cells cell l.pen.sheet.column l.n (count - l.n) l.line.items
    ≡ with_cells cell l.pen.sheet.column 0 count (codes "choice")
