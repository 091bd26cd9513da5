use Rattle.std.proofs.Common.{◌∙◌, ◌<◌, ◌++◌, [], ap, rules, arith}
use Rattle.std.proofs.lemmas.Grind.{common_steps}
use Rattle.std.specs.List.{cons_option}
use Rattle.plans.specs.Rules.{able, choice_in, thread_count}
use Rattle.plans.proofs.Threads.{next_made, all_made}
use Rattle.plans.proofs.player.Player.able.Goals as goal

pub loop-t-init : goal.loop-t-init
unfolding able
loop-t-init c = grind (arith, common_steps)

pub loop-t-preserved : goal.loop-t-preserved
loop-t-preserved c =
    let there : c.loop-t.t < thread_count c.args.self.now.world = search (rules, arith) in
    next_made (choice_in c.args.self.now.world) c.loop-t.t (thread_count c.args.self.now.world) c.loop-t.choices.items _ _ there
    c.loop-t.invariant (c.in_ok-push_made.ensures ∙ ap (λ o. c.loop-t.choices.items ++ cons_option o []) c.choice_in.ensures)

pub returns : goal.returns
returns c = grind (arith, common_steps, all_made)
