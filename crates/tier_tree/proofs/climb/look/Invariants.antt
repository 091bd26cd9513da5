use Rattle.tier_tree.specs.Stored.{phasers_of}
use Rattle.tier_tree.proofs.Ascent.{IsFound}
use Rattle.tier_tree.proofs.climb.look.Given as goal

abbrev pub invariant-loop-k : goal.invariant-loop-k
invariant-loop-k l = IsFound l.line l.words l.k l.leave l.leaves l.top (phasers_of l.nodes)
