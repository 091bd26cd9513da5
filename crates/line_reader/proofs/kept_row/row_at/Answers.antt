use Rattle.std.proofs.Common.{slice_index_or, ◌∙◌, ap}
use Rattle.instruction_table.specs.Table.{no_entry, table}
use Rattle.line_reader.specs.KeptRow.{one_other}
use Rattle.line_reader.proofs.KeptRows.{entry_has_one}
use Rattle.line_reader.proofs.kept_row.row_at.Goals as goal

pub row_of_kinds-requires : goal.row_of_kinds-requires
row_of_kinds-requires c =
    ap one_other c.operands_of-kinds.ensures
    ∙ entry_has_one c.args.word.now (slice_index_or table c.in-Some.opcode no_entry) c.in-Some.ensures.entry
