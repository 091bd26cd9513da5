use Rattle.std.proofs.Common.{◌-◌, replicate, arith}
use Rattle.std.proofs.lemmas.Grind.{common_steps}
use Rattle.trace_text.proofs.Plays.{Continues-next, Continues-refused, Continues-end, replicate-first}
use Rattle.trace_text.proofs.play.play_run.Goals as goal

pub returns-in-Ok-Some-clause-plays : goal.returns-in-Ok-Some-clause-plays
returns-in-Ok-Some-clause-plays g c =
    let rest = replicate (c.loop-left.left - 1) c.args.run.now.choice in
    Continues-refused _ _ _ _ _ _ rest c.in-Ok-Some.field-0 c.in-Ok-Some.refused _ _ _
    (replicate-first c.loop-left.left c.args.run.now.choice c.loop-left-test.true)
    c.loop-left.invariant c.in-Ok-Some.ensures.plays c.in-Ok-Some.field-0-is

pub loop-left-preserved : goal.loop-left-preserved
loop-left-preserved g c =
    Continues-next _ _ _ _ _ _ _ c.in-Ok-None.field-0 _ _ _
    (replicate-first c.loop-left.left c.args.run.now.choice c.loop-left-test.true)
    c.loop-left.invariant c.in-Ok-None.ensures.plays c.in-Ok-None.field-0-is

pub returns-clause-plays : goal.returns-clause-plays
returns-clause-plays g c = grind (arith, common_steps, Continues-end)
