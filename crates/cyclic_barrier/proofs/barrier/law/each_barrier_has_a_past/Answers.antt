use Rattle.cyclic_barrier.proofs.PastLemmas.{stands-fresh, has_past}
use Rattle.cyclic_barrier.proofs.barrier.law.each_barrier_has_a_past.Goals as goal

pub returns-clause-new : goal.returns-clause-new
returns-clause-new c = stands-fresh

pub returns-clause-each : goal.returns-clause-each
returns-clause-each c = has_past
