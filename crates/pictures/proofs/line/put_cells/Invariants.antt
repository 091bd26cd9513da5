use Rattle.std.proofs.Common.{◌≡◌, ℕ, List, ◌+◌, ◌-◌, length}
use Rattle.thread_machine.specs.World.{world_of}
use Rattle.pictures.specs.Picture.{cell_in, in_block, with_cells}
use Rattle.pictures.proofs.line.put_cells.Given as goal

abbrev pub invariant-loop-n : goal.invariant-loop-n
invariant-loop-n l =
    let cell : ℕ → List ℕ = λ n. cell_in (world_of l.machine) l.turn l.did (l.first + n) in
    let count = in_block l.pen.sheet (length l.machine.scene.threads) l.first in
    with_cells cell l.pen.sheet.column l.n (count - l.n) l.line.items
    ≡ with_cells cell l.pen.sheet.column 0 count l.initial.line.items
