use Rattle.std.proofs.{Common.arith, lemmas.Grind.common_steps}
use Rattle.plans.proofs.Threads.{find_here, find_later, find_none}
use Rattle.plans.proofs.player.Player.first_expiring.Goals as goal

pub loop-t-preserved : goal.loop-t-preserved
loop-t-preserved c = grind (arith, common_steps, find_later)

pub returns-then-can_expire : goal.returns-then-can_expire
returns-then-can_expire c = grind (arith, common_steps, find_here)

pub returns : goal.returns
returns c = grind (arith, common_steps, find_none)
