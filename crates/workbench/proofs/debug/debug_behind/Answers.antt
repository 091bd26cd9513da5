use Rattle.std.proofs.Common.{inr, refl, Some}
use Rattle.workbench.proofs.Debugged.{debugged, not_begun}
use Rattle.workbench.proofs.debug.debug_behind.Goals as goal

pub returns-in-Err-clause-outcome : goal.returns-in-Err-clause-outcome
returns-in-Err-clause-outcome g c =
    inr (not_begun c.in-Err.fault (Some c.args.runs.now) c.args.image _ _ _ _ _ c.in-Err.ensures.none (refl, refl))

pub returns-in-Ok-go_command-clause-outcome : goal.returns-in-Ok-go_command-clause-outcome
returns-in-Ok-go_command-clause-outcome g c =
    debugged c.converse.result (Some c.args.runs.now) c.args.image c.in-Ok.debugger c.go_command.new.self
    _ _ _ (g.K.Sink.written c.go_command.new.output) _ _ _ c.in-Ok.ensures.first c.in-Ok-go_command.ensures c.converse.ensures.outcome
