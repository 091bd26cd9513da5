use Rattle.std.proofs.Common.{◌≤◌, length}
use Rattle.tier_tree.proofs.Ascent.{IsWritten}
use Rattle.tier_tree.proofs.climb.write.Given as goal

abbrev pub invariant-loop-low : goal.invariant-loop-low
invariant-loop-low l =
    (l.low ≤ length l.line) × IsWritten l.line l.words l.low l.fn.nodes l.nodes

abbrev pub decreases-loop-low : goal.decreases-loop-low
decreases-loop-low l = l.low
