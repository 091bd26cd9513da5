use Rattle.std.proofs.Common.{◌≡◌, ◌-◌, ◌++◌}
use Rattle.thread_machine.specs.World.{world_of}
use Rattle.pictures.specs.Picture.{each_from, lines_text, other_block}
use Rattle.pictures.proofs.picture.draw_others.Given as goal

abbrev pub invariant-loop-number : goal.invariant-loop-number
invariant-loop-number l =
    let block = other_block l.pen.sheet l.pen.symbols.now (world_of l.machine) l.choices in
    l.text.items ++ lines_text l.pen.sheet.width (each_from block l.number (l.count - l.number))
    ≡ l.initial.text.items ++ lines_text l.pen.sheet.width (each_from block 0 l.count)
