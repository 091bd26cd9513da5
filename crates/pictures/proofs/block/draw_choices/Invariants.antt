use Rattle.std.proofs.Common.{drop}
use Rattle.thread_machine.specs.World.{world_of}
use Rattle.pictures.specs.Drawing.{IsDrawing}
use Rattle.pictures.proofs.block.draw_choices.Given as goal

abbrev pub invariant-loop-choice : goal.invariant-loop-choice
invariant-loop-choice l =
    IsDrawing l.pen.sheet l.pen.symbols.now l.first (world_of l.initial.machine) (world_of l.machine) l.choices
    (drop l.choice-index l.choices) l.initial.text.items l.text.items
