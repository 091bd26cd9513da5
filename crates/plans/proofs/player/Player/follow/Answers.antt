use Rattle.std.proofs.Common.{◌∙◌, ◌<◌, ◌≤◌, sym, rules, arith}
use Rattle.plans.proofs.Repeats.{next_followed, none_followed, over_followed, all_followed}
use Rattle.plans.proofs.player.Player.follow.Goals as goal

pub loop-k-preserved : goal.loop-k-preserved
loop-k-preserved c =
    let there : c.loop-k.k < c.args.most = search (rules, arith) in
    next_followed c.args.rule c.loop-k.k c.args.most c.loop-k.self c.choose.new.self _ c.in-Some.choice there
    c.loop-k.invariant (sym c.in_ok-choice.ensures ∙ c.in-Some.is) c.in_ok-choose.ensures

pub returns : goal.returns
returns c =
    let enough : c.args.most ≤ c.loop-k.k = search (rules, arith) in
    all_followed c.args.rule c.loop-k.k c.args.most c.loop-k.self _ enough c.loop-k.invariant

pub returns-in_default : goal.returns-in_default
returns-in_default c =
    let there : c.loop-k.k < c.args.most = search (rules, arith) in
    none_followed c.args.rule c.loop-k.k c.args.most c.loop-k.self _ there c.loop-k.invariant
    (sym c.in_ok-choice.ensures ∙ c.in_default.is)

pub returns-then-is_over : goal.returns-then-is_over
returns-then-is_over c =
    let there : c.loop-k.k < c.args.most = search (rules, arith) in
    over_followed c.args.rule c.loop-k.k c.args.most c.loop-k.self c.choose.new.self _ c.in-Some.choice there
    c.loop-k.invariant (sym c.in_ok-choice.ensures ∙ c.in-Some.is) c.in_ok-choose.ensures (sym c.is_over.ensures ∙ c.if-is_over.true)
