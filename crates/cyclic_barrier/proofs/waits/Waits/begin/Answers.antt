use Rattle.std.proofs.Common.{rules}
use Rattle.cyclic_barrier.proofs.WaitsLemmas.{disjoint-begin}
use Rattle.cyclic_barrier.proofs.waits.Waits.begin.Goals as goal

pub invariant_of-self : goal.invariant_of-self
invariant_of-self c = search (rules, disjoint-begin)
