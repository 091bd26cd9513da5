use Rattle.std.proofs.Common.{◌≤◌, length, rules, arith}
use Rattle.plans.proofs.Kept.{done_kept, next_kept}
use Rattle.plans.proofs.player.Player.keep_all.Goals as goal

pub loop-choice-preserved : goal.loop-choice-preserved
loop-choice-preserved c =
    next_kept c.args.choices.now c.loop-choice.choice-index _ c.loop-choice.self c.keep.new.self _ c.loop-choice-test.true
    c.loop-choice.invariant c.in_ok-keep.ensures

pub returns : goal.returns
returns c =
    let enough : length c.args.choices.now ≤ c.loop-choice.choice-index = search (rules, arith) in
    done_kept c.args.choices.now c.loop-choice.choice-index c.loop-choice.self _ enough c.loop-choice.invariant
