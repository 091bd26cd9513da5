use Rattle.std.proofs.Common.{Err, ap, inl}
use Rattle.workbench.proofs.Inputs.{unread}
use Rattle.workbench.proofs.program.image_from.Goals as goal

pub returns-in-Err : goal.returns-in-Err
returns-in-Err g c = inl (unread c.in-Err.fault _ _ _ c.in-Err.ensures.fault (λ is. c.in-Err.ensures.read (ap Err is)))
