use Rattle.std.proofs.Common.{rules}
use Rattle.cyclic_barrier.proofs.WaitsLemmas.{fewer-shown}
use Rattle.cyclic_barrier.proofs.waits.Waits.end.Goals as goal

pub returns-clause-fewer : goal.returns-clause-fewer
returns-clause-fewer c = search (rules, fewer-shown)
