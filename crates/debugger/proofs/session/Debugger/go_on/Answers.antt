use Rattle.std.proofs.Common.{subst}
use Rattle.debugger.specs.Go.{Stops}
use Rattle.debugger.proofs.Goes.{one_more_breaks, one_more_ends, one_more_faults, one_more_stays}
use Rattle.debugger.proofs.session.Debugger.go_on.Goals as goal

pub returns-in_default : goal.returns-in_default
returns-in_default c = λ before choices stops.
    one_more_stays c.args.stop before c.args.self.now choices c.args.choice c.in_default.not-End stops

pub returns-in-On : goal.returns-in-On
returns-in-On c = λ before choices stops.
    one_more_ends before c.args.self.now c.pass.new.self choices c.args.choice c.in-End.played
    (subst (λ s. Stops before choices s c.args.self.now) c.in-End.is stops) c.in-On.ensures

pub returns-in-Break : goal.returns-in-Break
returns-in-Break c = λ before choices stops.
    one_more_breaks before c.args.self.now c.pass.new.self choices c.args.choice c.in-End.played
    (subst (λ s. Stops before choices s c.args.self.now) c.in-End.is stops) c.in-Break.ensures

pub returns-in-Fault : goal.returns-in-Fault
returns-in-Fault c = λ before choices stops.
    one_more_faults c.in-Fault.fault before c.args.self.now c.pass.new.self choices c.args.choice c.in-End.played
    (subst (λ s. Stops before choices s c.args.self.now) c.in-End.is stops) c.in-Fault.ensures
