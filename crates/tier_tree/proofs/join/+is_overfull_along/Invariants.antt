use Rattle.std.proofs.Common.{length}
use Rattle.tier_tree.proofs.join.+is_overfull_along.Given as goal

abbrev pub decreases-is_overfull_along : goal.decreases-is_overfull_along
decreases-is_overfull_along l = length l.line.now
