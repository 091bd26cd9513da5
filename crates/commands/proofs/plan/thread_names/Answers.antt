use Rattle.std.proofs.Common.{rules, ◌+◌, ◌≤◌, arith}
use Rattle.commands.proofs.PlanParts.{one_more}
use Rattle.commands.proofs.plan.thread_names.Goals as goal

pub loop-thread-preserved : goal.loop-thread-preserved
loop-thread-preserved c =
    let within : c.loop-thread.thread + 1 ≤ c.args.count = search (rules, arith) in
    record {
      names = one_more c.args.symbols.now c.loop-thread.names.items c.push.new.self.items c.thread_name.result c.loop-thread.thread
          c.in_ok-push.ensures.items c.loop-thread.invariant.names c.thread_name.ensures;
      within = within;
    }
