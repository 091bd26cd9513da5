use Rattle.std.proofs.Common.{Err, inr, refl}
use Rattle.workbench.proofs.Conversations.{none_given}
use Rattle.workbench.proofs.debug.debug_cmd.Goals as goal

pub returns-in-Err-clause-outcome : goal.returns-in-Err-clause-outcome
returns-in-Err-clause-outcome g c = (Err c.in-Err.fault, (inr (c.in-Err.ensures, (refl, refl)), c.settled.ensures))

pub returns-in-Err-clause-few : goal.returns-in-Err-clause-few
returns-in-Err-clause-few g c = none_given _ _ refl
