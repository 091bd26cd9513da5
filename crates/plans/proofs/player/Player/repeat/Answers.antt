use Rattle.std.proofs.Common.{◌∙◌, ◌<◌, ◌≤◌, sym, rules, arith}
use Rattle.plans.specs.Progress.{chosen}
use Rattle.plans.proofs.Repeats.{next_repeated, over_repeated, all_repeated}
use Rattle.plans.proofs.player.Player.repeat.Goals as goal

pub loop-done-preserved : goal.loop-done-preserved
loop-done-preserved c =
    let there : c.loop-done.done < c.args.times = search (rules, arith) in
    next_repeated (chosen c.args.choice) c.loop-done.done c.args.times c.loop-done.self c.choose.new.self _ there
    c.loop-done.invariant c.in_ok-choose.ensures

pub returns-then-is_over : goal.returns-then-is_over
returns-then-is_over c =
    let there : c.loop-done.done < c.args.times = search (rules, arith) in
    over_repeated c.args.choice c.loop-done.done c.args.times c.loop-done.self c.choose.new.self _ there
    c.loop-done.invariant c.in_ok-choose.ensures (sym c.is_over.ensures ∙ c.if-is_over.true)

pub returns : goal.returns
returns c =
    let enough : c.args.times ≤ c.loop-done.done = search (rules, arith) in
    all_repeated (chosen c.args.choice) c.loop-done.done c.args.times c.loop-done.self _ enough c.loop-done.invariant
