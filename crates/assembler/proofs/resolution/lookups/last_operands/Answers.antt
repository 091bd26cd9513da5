use Rattle.std.proofs.Common.{[], ◌&&◌, true}
use Rattle.assembler.specs.Meaning.{is_operand_known, operands_of, with_operand}
use Rattle.line_reader.specs.KeptRow.{row_kept}
use Rattle.assembler.proofs.Lookups.{one_found, two_found}
use Rattle.assembler.proofs.resolution.lookups.last_operands.Goals as goal

pub returns : goal.returns
returns c =
    let lines = c.args.draft.now in
    let row = row_kept c.args.row.now in
    let none = operands_of lines [] in
    two_found (with_operand lines row.third) (is_operand_known lines row.third) (is_operand_known lines row.fourth && true)
    (with_operand lines row.fourth none) c.in_ok-operands.operands c.with_operand-2.result
    (one_found (is_operand_known lines row.fourth) (with_operand lines row.fourth none) c.in_ok-operands.operands c.in_ok-operands.ensures)
    c.with_operand-2.ensures
