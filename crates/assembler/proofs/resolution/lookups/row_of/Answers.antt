use Rattle.std.proofs.Common.{◌≡◌, ◌∙◌, ◌&&◌, ◌∷◌, [], Some, None, cond}
use Rattle.std.specs.List.{list_all}
use Rattle.row_code.specs.RowOperands.{row_with}
use Rattle.line_reader.specs.{Symbols.operands_in, KeptRow.row_kept}
use Rattle.assembler.specs.Meaning.{is_operand_known, operands_of, row_of, with_operand}
use Rattle.assembler.proofs.Lookups.{found_used, none_behind, two_found}
use Rattle.assembler.proofs.resolution.lookups.row_of.Goals as goal

pub returns : goal.returns
returns c =
    let lines = c.args.draft.now in
    let row = row_kept c.args.row.now in
    let last = row.third ∷ row.fourth ∷ [] in
    let known = list_all (is_operand_known lines) last in
    let second = two_found (with_operand lines row.second) (is_operand_known lines row.second) known (operands_of lines last)
    c.in_ok-operands.operands (Some c.in_ok-operands-2.operands) c.in_ok-operands.ensures c.in_ok-operands-2.ensures in
    let first = two_found (with_operand lines row.first) (is_operand_known lines row.first) (is_operand_known lines row.second && known)
    (with_operand lines row.second (operands_of lines last)) c.in_ok-operands-2.operands (Some c.in_ok-operands-3.operands) second
    c.in_ok-operands-3.ensures in
    let used : Some (row_with row.opcode c.in_ok-operands-3.operands)
    ≡ cond (list_all (is_operand_known lines) (operands_in row)) (Some (row_of lines row)) None =
    found_used (row_with row.opcode) (list_all (is_operand_known lines) (operands_in row)) (operands_of lines (operands_in row))
    c.in_ok-operands-3.operands first in
    rw c.row_with.ensures.row used

pub returns-in_err-operands : goal.returns-in_err-operands
returns-in_err-operands c =
    let lines = c.args.draft.now in
    let row = row_kept c.args.row.now in
    let last = row.third ∷ row.fourth ∷ [] in
    c.from_residual.ensures
    ∙ none_behind (is_operand_known lines row.first) (is_operand_known lines row.second) (list_all (is_operand_known lines) last)
    (operands_of lines last) (row_of lines row) c.in_err-operands.ensures
