use Rattle.std.proofs.{Common.sym, Common.arith, lemmas.List.get_or_past}
use Rattle.instruction_table.specs.declared.row.Row.TheVariants.{Halt}
use Rattle.row_code.specs.RowOperands.{rows_with}
use Rattle.row_code.proofs.operands.row_with.Goals as goal

pub returns-in_default-clause-row : goal.returns-in_default-clause-row
returns-in_default-clause-row c = sym (get_or_past (rows_with c.args.operands) c.args.opcode Halt (omega arith))
