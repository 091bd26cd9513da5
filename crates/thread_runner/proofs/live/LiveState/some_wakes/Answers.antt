use Rattle.std.proofs.Common.{◌∙◌, sym, rules, arith}
use Rattle.thread_runner.specs.{Recording.recorded_world, Waiting.wakes}
use Rattle.thread_runner.proofs.Threads.{one_more, one_passes, none_passes}
use Rattle.thread_runner.proofs.live.LiveState.some_wakes.Goals as goal

pub loop-thread-preserved : goal.loop-thread-preserved
loop-thread-preserved c =
    let now = c.args.self.now in
    one_more (wakes now.broken (recorded_world now.journaled) now.sleepers) c.loop-thread.thread c.loop-thread.invariant
    (sym c.wakes.ensures ∙ c.if-wakes.false)

pub returns-then-wakes : goal.returns-then-wakes
returns-then-wakes c =
    let now = c.args.self.now in
    sym (one_passes (wakes now.broken (recorded_world now.journaled) now.sleepers) _ c.loop-thread.thread (search rules)
    (sym c.wakes.ensures ∙ c.if-wakes.true))

pub returns : goal.returns
returns c = grind (arith, none_passes)
