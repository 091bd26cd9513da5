use Rattle.std.proofs.Common.{slice_index, bytes_eq, sym, ap, ◌∙◌}
use Rattle.row_code.specs.{RowBytes.fields_at, RowOperands.operands_at, RowOperands.row_with}
use Rattle.row_code.proofs.RowLaws.{when_spelled, when_not, row_in_its_bytes}
use Rattle.row_code.proofs.row_bytes.decode.Goals as goal

pub returns-then-eq-clause-taken : goal.returns-then-eq-clause-taken
returns-then-eq-clause-taken c =
    when_spelled c.row_with-row.result (row_with (slice_index c.args.bytes 0) (operands_at (fields_at c.args.bytes))) c.args.bytes
    (c.row_with-row.ensures.row ∙ ap (row_with (slice_index c.args.bytes 0)) (c.operands_at.ensures ∙ ap operands_at c.fields_at.ensures))
    (ap (λ bytes. bytes_eq bytes c.args.bytes) (sym c.encode.ensures.bytes) ∙ sym c.eq.ensures ∙ c.if-eq.true)

pub returns-else-eq-clause-taken : goal.returns-else-eq-clause-taken
returns-else-eq-clause-taken c =
    when_not c.row_with-row.result (row_with (slice_index c.args.bytes 0) (operands_at (fields_at c.args.bytes))) c.args.bytes
    (c.row_with-row.ensures.row ∙ ap (row_with (slice_index c.args.bytes 0)) (c.operands_at.ensures ∙ ap operands_at c.fields_at.ensures))
    (ap (λ bytes. bytes_eq bytes c.args.bytes) (sym c.encode.ensures.bytes) ∙ sym c.eq.ensures ∙ c.if-eq.false)

pub returns-then-eq-clause-only : goal.returns-then-eq-clause-only
returns-then-eq-clause-only c = λ row fits spelled.
    returns-then-eq-clause-taken c ∙ row_in_its_bytes c.args.bytes row fits spelled

pub returns-else-eq-clause-only : goal.returns-else-eq-clause-only
returns-else-eq-clause-only c = λ row fits spelled.
    returns-else-eq-clause-taken c ∙ row_in_its_bytes c.args.bytes row fits spelled
