use Rattle.thread_machine.specs.World.{world_of}
use Rattle.pictures.proofs.Drawings.{IsDrawing-next, IsDrawing-refused, choices-drop}
use Rattle.pictures.proofs.block.draw_choices.Goals as goal

pub returns-then-not-branch : goal.returns-then-not-branch
returns-then-not-branch c =
    IsDrawing-refused _ _ _ (world_of c.args.machine.now) _ _ c.args.choices.now _ _ _ _ _ _ _
    (choices-drop c.args.choices.now c.loop-choice.choice-index _ c.loop-choice-test.true)
    c.loop-choice.invariant c.in_ok-draw_choice.ensures c.if-not-branch.true

pub loop-choice-preserved : goal.loop-choice-preserved
loop-choice-preserved c =
    IsDrawing-next _ _ _ (world_of c.args.machine.now) _ _ c.args.choices.now _ _ _ _ _ _ _
    (choices-drop c.args.choices.now c.loop-choice.choice-index _ c.loop-choice-test.true)
    c.loop-choice.invariant c.in_ok-draw_choice.ensures c.if-not-branch.false
