use Rattle.std.proofs.Common.{Err, inr, refl}
use Rattle.workbench.proofs.run.run_cmd.Goals as goal

pub returns-in-Err : goal.returns-in-Err
returns-in-Err g c = (Err c.in-Err.fault, (inr (c.in-Err.ensures, (refl, refl)), c.settled.ensures))
