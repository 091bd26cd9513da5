use Rattle.std.proofs.Common.{◌∙◌, sym, rules, arith}
use Rattle.thread_runner.specs.{Recording.recorded_world, Turns.is_ready_in}
use Rattle.thread_runner.proofs.Threads.{one_more, one_passes, none_passes}
use Rattle.thread_runner.proofs.journaled.Journaled.some_turn.Goals as goal

pub loop-t-preserved : goal.loop-t-preserved
loop-t-preserved c =
    one_more (is_ready_in (recorded_world c.args.self.now)) c.loop-t.t c.loop-t.invariant (sym c.is_ready.ensures ∙ c.if-is_ready.false)

pub returns-then-is_ready : goal.returns-then-is_ready
returns-then-is_ready c =
    sym (one_passes (is_ready_in (recorded_world c.args.self.now)) _ c.loop-t.t (search rules) (sym c.is_ready.ensures ∙ c.if-is_ready.true))

pub returns : goal.returns
returns c = sym (none_passes (is_ready_in (recorded_world c.args.self.now)) _ (λ k within. c.loop-t.invariant k (search (rules, arith))))
