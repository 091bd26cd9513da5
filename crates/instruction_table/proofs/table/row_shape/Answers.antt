use Rattle.std.proofs.Common.{◌∙◌, ap, zero-add}
use Rattle.instruction_table.specs.Table.{no_entry, table}
use Rattle.instruction_table.proofs.TableLemmas.{opcode-at, table_placed}
use Rattle.instruction_table.proofs.table.row_shape.Goals as goal

-- the entry at the row's place has that place as its opcode
pub returns-clause-code : goal.returns-clause-code
returns-clause-code c =
    ap (λ e. e.opcode) c.shape_at.ensures ∙ opcode-at table 0 _ no_entry table_placed c.opcode.ensures.listed
    ∙ zero-add _ ∙ c.opcode.ensures.code
