use Rattle.std.proofs.Common.{Err, inr, refl}
use Rattle.workbench.proofs.live.live_cmd.Goals as goal

pub returns-in-Err : goal.returns-in-Err
returns-in-Err g c = (Err c.in-Err.fault, (inr (c.in-Err.ensures, refl), c.settled.ensures))
