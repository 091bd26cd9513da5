use Rattle.std.proofs.Common.{◌∙◌, ap}
use Rattle.instruction_table.specs.Table.{entry_named, table}
use Rattle.refusals.proofs.Words.{directive_told, row_told}
use Rattle.refusals.proofs.word.word_entry.Goals as goal

pub returns-in-Some : goal.returns-in-Some
returns-in-Some c =
    row_told c.args.word.now c.in-Some.shape c.row_entry.result
    (c.in-Some.ensures.entry ∙ ap (entry_named table) c.as_bytes.ensures.value) c.in-Some.ensures.place c.row_entry.ensures

pub returns-in-None : goal.returns-in-None
returns-in-None c =
    directive_told c.args.word.now c.directive_entry.result
    (c.in-None.ensures.entry ∙ ap (entry_named table) c.as_bytes.ensures.value) c.directive_entry.ensures
