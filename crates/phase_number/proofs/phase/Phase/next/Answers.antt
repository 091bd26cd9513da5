use Rattle.std.proofs.Common.{rules}
use Rattle.phase_number.proofs.phase.Phase.next.Goals as goal

pub invariant_of-t-3 : goal.invariant_of-t-3
invariant_of-t-3 c = search rules
