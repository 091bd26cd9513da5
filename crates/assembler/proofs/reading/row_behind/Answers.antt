use Rattle.std.proofs.Common.{◌∙◌, ◌+◌, Err, ap, map, sym}
use Rattle.std.proofs.lemmas.List.{length-map}
use Rattle.line_reader.specs.declared.asm_fault.AsmFaultKind.TheVariants as fault
use Rattle.line_reader.specs.{declared.asm_fault.WordFault.WordFault, Reading.fault_at, Seen.name_seen, KeptRow.row_kept}
use Rattle.assembler.proofs.KeptLines.{row_refused, row_taken}
use Rattle.assembler.proofs.reading.row_behind.Goals as goal

pub returns-then-not-has_room_for_row : goal.returns-then-not-has_room_for_row
returns-then-not-has_room_for_row c = λ label.
    let row = row_kept c.in_ok-row.row in
    ap (λ (e : WordFault). Err e) (c.at.ensures ∙ ap (λ n. fault_at (n + 1) fault.TooMany) (sym (length-map c.args.words.now name_seen)))
    ∙ row_refused c.args.draft.now label c.args.word.now (map name_seen c.args.words.now) row c.has_room_for_row.result
    c.in_ok-row.ensures (c.has_room_for_row.ensures label row) c.if-not-has_room_for_row.true

pub returns : goal.returns
returns c = λ label.
    let row = row_kept c.in_ok-row.row in
    row_taken c.args.draft.now label c.args.word.now (map name_seen c.args.words.now) row c.has_room_for_row.result
    c.in_ok-row.ensures (c.has_room_for_row.ensures label row) c.if-not-has_room_for_row.false
