use Rattle.std.proofs.Common.{inr, refl, None}
use Rattle.workbench.proofs.{Conversations.none_given, Debugged.debugged, Debugged.not_begun}
use Rattle.workbench.proofs.debug.debug.Goals as goal

pub returns-clause-outcome : goal.returns-clause-outcome
returns-clause-outcome g c =
    debugged c.converse.result None c.args.image c.in-Ok.debugger c.in-Ok.debugger
    _ _ _ _ _ _ _ c.in-Ok.ensures.first (refl, refl) c.converse.ensures.outcome

pub returns-in-Err-clause-outcome : goal.returns-in-Err-clause-outcome
returns-in-Err-clause-outcome g c =
    inr (not_begun c.in-Err.fault None c.args.image _ _ _ _ _ c.in-Err.ensures.none (refl, refl))

pub returns-in-Err-clause-few : goal.returns-in-Err-clause-few
returns-in-Err-clause-few g c = none_given _ _ refl
