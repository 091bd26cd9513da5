use Rattle.std.proofs.Common.{arith}
use Rattle.tier_tree.proofs.join.register.Goals.{in-At, in_default}
use Rattle.tier_tree.proofs.join.register.Goals as goal

pub returns-then-matches-clause-forest : goal.returns-then-matches-clause-forest
returns-then-matches-clause-forest c = grind arith
