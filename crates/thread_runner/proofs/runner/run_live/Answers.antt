use Rattle.std.proofs.Common.{◌∙◌, ◌*◌, ◌≤◌, length, subst}
use Rattle.thread_machine.specs.World.{World}
use Rattle.thread_runner.proofs.Replays.{recorded_within}
use Rattle.thread_runner.proofs.runner.run_live.Goals as goal

pub returns-in-Ok-run_of-clause-few : goal.returns-in-Ok-run_of-clause-few
returns-in-Ok-run_of-clause-few g c =
    let text = c.live_run.result.schedule.items in
    subst (λ (first : World). length text ≤ 4 * first.limit) (c.in-Ok-run_of.ensures.first ∙ c.in-Ok.ensures.first)
    (recorded_within c.in-Ok-run_of.journaled.first text _ c.live_run.ensures.record)
