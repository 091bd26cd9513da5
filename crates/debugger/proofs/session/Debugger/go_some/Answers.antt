use Rattle.std.proofs.Common.{◌∙◌, ap, false, min}
use Rattle.schedule_reader.specs.declared.run.Run.{Run}
use Rattle.debugger.proofs.{Goes.continues_next, Goes.continues_break, Goes.continues_fault, PlayedRuns.first_of_runs}
use Rattle.debugger.proofs.session.Debugger.go_some.Goals as goal

pub returns-in-Break : goal.returns-in-Break
returns-in-Break c =
    let none : Run = record { choice = record { thread = 0; expiry = false }; times = 0 } in
    continues_break c.args.self.now c.loop-run.self c.go_run.new.self _ _ _ _
    (first_of_runs c.args.runs.now c.loop-run.run-index c.loop-run.left c.min-times.result none c.loop-run-test.true
    (c.min-times.ensures ∙ ap (λ n. min c.loop-run.left n) c.from.ensures)) c.loop-run.invariant c.in-Break.ensures

pub returns-in-Fault : goal.returns-in-Fault
returns-in-Fault c =
    let none : Run = record { choice = record { thread = 0; expiry = false }; times = 0 } in
    continues_fault c.in-Fault.fault c.args.self.now c.loop-run.self c.go_run.new.self _ _ _ _
    (first_of_runs c.args.runs.now c.loop-run.run-index c.loop-run.left c.min-times.result none c.loop-run-test.true
    (c.min-times.ensures ∙ ap (λ n. min c.loop-run.left n) c.from.ensures)) c.loop-run.invariant c.in-Fault.ensures

pub loop-run-preserved : goal.loop-run-preserved
loop-run-preserved c =
    let none : Run = record { choice = record { thread = 0; expiry = false }; times = 0 } in
    continues_next c.args.self.now c.loop-run.self c.go_run.new.self _ _ _ _
    (first_of_runs c.args.runs.now c.loop-run.run-index c.loop-run.left c.min-times.result none c.loop-run-test.true
    (c.min-times.ensures ∙ ap (λ n. min c.loop-run.left n) c.from.ensures)) c.loop-run.invariant c.in-On.ensures
