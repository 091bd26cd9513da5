use Rattle.std.proofs.Common.{◌∙◌}
use Rattle.std.proofs.lemmas.List.{drop_more}
use Rattle.headline.proofs.Scenes.{left_last, left_next}
use Rattle.headline.proofs.machine.play_all.Goals as goal

pub returns-then-not-branch-clause-left : goal.returns-then-not-branch-clause-left
returns-then-not-branch-clause-left c =
    left_last _ _ _ _ _ _ (drop_more c.args.choices.now c.loop-choice.choice-index _ c.loop-choice-test.true)
    c.in_ok-play_one.ensures.led c.if-not-branch.true ∙ c.loop-choice.invariant

pub loop-choice-preserved : goal.loop-choice-preserved
loop-choice-preserved c =
    left_next _ _ _ _ _ _ (drop_more c.args.choices.now c.loop-choice.choice-index _ c.loop-choice-test.true)
    c.in_ok-play_one.ensures.led c.if-not-branch.false ∙ c.loop-choice.invariant
