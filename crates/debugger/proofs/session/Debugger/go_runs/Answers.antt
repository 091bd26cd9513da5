use Rattle.trace_text.proofs.Plays.{choices_of-drop}
use Rattle.debugger.proofs.Goes.{continues_next, continues_break, continues_fault}
use Rattle.debugger.proofs.session.Debugger.go_runs.Goals as goal

pub returns-in-Break : goal.returns-in-Break
returns-in-Break c =
    continues_break c.args.self.now c.loop-run.self c.go_run.new.self _ _ _ _
    (choices_of-drop c.args.runs.now c.loop-run.run-index _ c.loop-run-test.true) c.loop-run.invariant c.in-Break.ensures

pub returns-in-Fault : goal.returns-in-Fault
returns-in-Fault c =
    continues_fault c.in-Fault.fault c.args.self.now c.loop-run.self c.go_run.new.self _ _ _ _
    (choices_of-drop c.args.runs.now c.loop-run.run-index _ c.loop-run-test.true) c.loop-run.invariant c.in-Fault.ensures

pub loop-run-preserved : goal.loop-run-preserved
loop-run-preserved c =
    continues_next c.args.self.now c.loop-run.self c.go_run.new.self _ _ _ _
    (choices_of-drop c.args.runs.now c.loop-run.run-index _ c.loop-run-test.true) c.loop-run.invariant c.in-On.ensures
