use Rattle.std.proofs.Common.{length}
use Rattle.tier_tree.proofs.join.+join_along.Given as goal

abbrev pub decreases-join_along : goal.decreases-join_along
decreases-join_along l = length l.line.now
