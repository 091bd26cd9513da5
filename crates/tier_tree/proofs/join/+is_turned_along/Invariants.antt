use Rattle.std.proofs.Common.{length}
use Rattle.tier_tree.proofs.join.+is_turned_along.Given as goal

abbrev pub decreases-is_turned_along : goal.decreases-is_turned_along
decreases-is_turned_along l = length l.line.now
