use Rattle.std.proofs.Common.{◌-◌, ◌∷◌, [], replicate}
use Rattle.trace_text.proofs.Plays.{replicate-first}
use Rattle.debugger.proofs.Goes.{continues_next, continues_break, continues_fault}
use Rattle.debugger.proofs.session.Debugger.go_run.Goals as goal

pub returns-in-Break : goal.returns-in-Break
returns-in-Break c =
    let rest = replicate (c.loop-left.left - 1) c.args.run.choice in
    continues_break c.args.self.now c.loop-left.self c.pass.new.self _ _ (c.args.run.choice ∷ []) rest
    (replicate-first c.loop-left.left c.args.run.choice c.loop-left-test.true) c.loop-left.invariant c.in-Break.ensures

pub returns-in-Fault : goal.returns-in-Fault
returns-in-Fault c =
    let rest = replicate (c.loop-left.left - 1) c.args.run.choice in
    continues_fault c.in-Fault.fault c.args.self.now c.loop-left.self c.pass.new.self _ _ (c.args.run.choice ∷ []) rest
    (replicate-first c.loop-left.left c.args.run.choice c.loop-left-test.true) c.loop-left.invariant c.in-Fault.ensures

pub loop-left-preserved : goal.loop-left-preserved
loop-left-preserved c =
    let rest = replicate (c.loop-left.left - 1) c.args.run.choice in
    continues_next c.args.self.now c.loop-left.self c.pass.new.self _ _ (c.args.run.choice ∷ []) rest
    (replicate-first c.loop-left.left c.args.run.choice c.loop-left-test.true) c.loop-left.invariant c.in-On.ensures
