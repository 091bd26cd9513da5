use Rattle.std.proofs.Common.{ap, subst, sym, ◌∙◌, ◌≤◌, MatchOption, length, slice_get}
use Rattle.std.specs.List.{flat_map}
use Rattle.instruction_table.specs.Table.{table}
use Rattle.refusals.specs.Word.{IsRowEntry}
use Rattle.refusals.proofs.Words.{entry_of_row}
use Rattle.refusals.proofs.table.row.row_entry.Goals as goal

pub returns : goal.returns
returns c =
    let entries = flat_map (λ rows. rows.now) c.row_tables.result in
    subst (λ told. MatchOption told (length table ≤ c.args.opcode) (IsRowEntry c.args.opcode))
    (sym (c.entry_at.ensures ∙ ap (λ k. slice_get entries k) c.from.ensures))
    (entry_of_row entries table c.args.opcode c.row_tables.ensures)
