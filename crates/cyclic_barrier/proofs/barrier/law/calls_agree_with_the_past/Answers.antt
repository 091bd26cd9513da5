use Rattle.cyclic_barrier.proofs.PastLemmas.{follows_past}
use Rattle.cyclic_barrier.proofs.barrier.law.calls_agree_with_the_past.Goals as goal

pub returns : goal.returns
returns c = follows_past
