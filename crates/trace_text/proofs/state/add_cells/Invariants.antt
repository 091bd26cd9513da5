use Rattle.std.proofs.Common.{◌≡◌, ◌++◌, drop}
use Rattle.trace_text.specs.State.{numbered_texts, cell_text}
use Rattle.trace_text.proofs.state.add_cells.Given as goal

abbrev pub invariant-loop-number : goal.invariant-loop-number
invariant-loop-number l =
    l.text.items ++ numbered_texts cell_text l.number (drop l.number l.cells)
    ≡ l.initial.text.items ++ numbered_texts cell_text 0 l.cells
