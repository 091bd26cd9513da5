use Rattle.std.proofs.Common.{◌<◌, length, subst}
use Rattle.thread_machine.specs.World.{world_of}
use Rattle.pictures.specs.Picture.{closing_lines, closing_of, lines_text}
use Rattle.pictures.proofs.Cells.{each_written}
use Rattle.pictures.proofs.closing.push_closings.Goals as goal

pub loop-thread-preserved : goal.loop-thread-preserved
loop-thread-preserved c =
    let pen = c.args.pen.now in
    let world = world_of c.args.machine.now in
    let there : c.loop-thread.thread < length c.args.machine.now.scene.threads =
    subst (λ n. c.loop-thread.thread < n) c.thread_count-thread-end.ensures.count c.loop-thread-test.true in
    each_written pen.sheet.width (closing_of pen.sheet pen.symbols.now world) c.loop-thread.thread
    (length c.args.machine.now.scene.threads) c.loop-thread.text.items c.push_closing.new.text.items c.args.text.now.items
    (lines_text pen.sheet.width (closing_lines pen.sheet pen.symbols.now world)) there c.in_ok-push_closing.ensures
    c.loop-thread.invariant
