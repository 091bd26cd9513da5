use Rattle.std.proofs.Common.{◌∙◌, sym, rules, arith}
use Rattle.thread_runner.specs.{Recording.recorded_world, Turns.can_expire_in}
use Rattle.thread_runner.proofs.Threads.{one_more, one_passes, none_passes}
use Rattle.thread_runner.proofs.journaled.Journaled.some_lower.Goals as goal

pub loop-t-preserved : goal.loop-t-preserved
loop-t-preserved c =
    one_more (can_expire_in (recorded_world c.args.self.now)) c.loop-t.t c.loop-t.invariant (sym c.can_expire.ensures ∙ c.if-can_expire.false)

pub returns-then-can_expire : goal.returns-then-can_expire
returns-then-can_expire c =
    sym (one_passes (can_expire_in (recorded_world c.args.self.now)) c.args.thread c.loop-t.t (search rules) (sym c.can_expire.ensures ∙ c.if-can_expire.true))

pub returns : goal.returns
returns c = sym (none_passes (can_expire_in (recorded_world c.args.self.now)) c.args.thread (λ k within. c.loop-t.invariant k (search (rules, arith))))
