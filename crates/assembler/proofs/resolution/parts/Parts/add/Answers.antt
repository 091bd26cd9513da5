use Rattle.std.proofs.Common.{None}
use Rattle.line_reader.specs.declared.statement.Statement.TheVariants as statement
use Rattle.assembler.specs.Meaning.{are_known, phaser_of, row_of}
use Rattle.line_reader.specs.{Seen.phaser_seen, KeptRow.row_kept}
use Rattle.assembler.proofs.Lookups.{found_behind}
use Rattle.assembler.proofs.resolution.parts.Parts.add.Goals as goal

pub returns-in-Phaser-clause-phasers : goal.returns-in-Phaser-clause-phasers
returns-in-Phaser-clause-phasers c = λ told.
    let lines = c.args.draft.now in
    let phaser = phaser_seen c.deref.result.now in
    let pushed = c.push_found in
    rw (c.in-Phaser.is, ← c.self.view_is, ← c.deref.ensures)
    (found_behind c.self.inside.phasers.items pushed.new.list.items (are_known lines (statement.Phaser phaser)) (phaser_of lines phaser)
    c.phaser_of.result pushed.result
    c.phaser_of.ensures pushed.ensures.found pushed.ensures.list told)

pub returns-in-Row-clause-rows : goal.returns-in-Row-clause-rows
returns-in-Row-clause-rows c = λ told.
    let lines = c.args.draft.now in
    let row = row_kept c.in-Row.row in
    let pushed = c.push_found-in-Row in
    rw (c.in-Row.is, ← c.self.view_is)
    (found_behind c.self.inside.rows.items pushed.new.list.items (are_known lines (statement.Row None row)) (row_of lines row)
    c.row_of.result pushed.result c.row_of.ensures pushed.ensures.found pushed.ensures.list told)

pub returns-in-LabelledRow-clause-rows : goal.returns-in-LabelledRow-clause-rows
returns-in-LabelledRow-clause-rows c = λ told.
    let lines = c.args.draft.now in
    let row = row_kept c.in-LabelledRow.row in
    let pushed = c.push_found-in-LabelledRow in
    rw (c.in-LabelledRow.is, ← c.self.view_is)
    (found_behind c.self.inside.rows.items pushed.new.list.items (are_known lines (statement.Row None row)) (row_of lines row)
    c.row_of-in-LabelledRow.result pushed.result c.row_of-in-LabelledRow.ensures pushed.ensures.found pushed.ensures.list told)
