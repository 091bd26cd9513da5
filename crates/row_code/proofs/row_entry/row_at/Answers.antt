use Rattle.std.proofs.Common.{ap, sym, ◌∙◌}
use Rattle.row_code.specs.{Reading.row_at, Reading.row_or, RowOperands.row_in}
use Rattle.row_code.proofs.Cells.{of_eight}
use Rattle.row_code.proofs.row_entry.row_at.Goals as goal

pub returns-clause-read : goal.returns-clause-read
unfolding row_at
returns-clause-read c =
    c.row_or.ensures.read
    ∙ ap (row_or c.args.timed c.args.n) (c.decode.ensures.taken ∙ ap row_in (sym (of_eight c.args.bytes.now c.requires)))
