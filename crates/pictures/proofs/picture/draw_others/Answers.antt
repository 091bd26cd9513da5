use Rattle.thread_machine.specs.World.{world_of}
use Rattle.pictures.specs.Picture.{each_from, lines_text, other_block}
use Rattle.pictures.proofs.Cells.{all_written, each_written}
use Rattle.pictures.proofs.picture.draw_others.Goals as goal

pub loop-number-preserved : goal.loop-number-preserved
loop-number-preserved c =
    let sheet = c.args.pen.now.sheet in
    let block = other_block sheet c.args.pen.now.symbols.now (world_of c.args.machine.now) c.args.choices.now in
    each_written sheet.width block c.loop-number.number c.args.count c.loop-number.text.items c.draw_other.new.text.items
    c.args.text.now.items (lines_text sheet.width (each_from block 0 c.args.count)) c.loop-number-test.true
    c.in_ok-draw_other.ensures c.loop-number.invariant

pub returns : goal.returns
returns c =
    let sheet = c.args.pen.now.sheet in
    let block = other_block sheet c.args.pen.now.symbols.now (world_of c.args.machine.now) c.args.choices.now in
    all_written sheet.width block c.loop-number.number c.args.count c.loop-number.text.items c.args.text.now.items
    (lines_text sheet.width (each_from block 0 c.args.count)) c.loop-number-test.false c.loop-number.invariant
