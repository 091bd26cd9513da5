use Rattle.std.proofs.Common.{◌≡◌, ◌-◌, ◌++◌, length}
use Rattle.thread_machine.specs.World.{world_of}
use Rattle.pictures.specs.Picture.{closing_lines, closing_of, each_from, lines_text}
use Rattle.pictures.proofs.closing.push_closings.Given as goal

abbrev pub invariant-loop-thread : goal.invariant-loop-thread
invariant-loop-thread l =
    let world = world_of l.machine in
    l.text.items ++ lines_text l.pen.sheet.width (each_from (closing_of l.pen.sheet l.pen.symbols.now world) l.thread
    (length l.machine.scene.threads - l.thread))
    ≡ l.initial.text.items ++ lines_text l.pen.sheet.width (closing_lines l.pen.sheet l.pen.symbols.now world)
