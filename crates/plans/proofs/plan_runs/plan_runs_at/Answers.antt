use Rattle.std.proofs.Common.{◌≡◌, ◌∙◌, sym, ap}
use Rattle.plans.specs.{Progress.Progress, Progress.begun_at, Play.plays}
use Rattle.thread_machine.specs.World.{world_of}
use Rattle.plans.proofs.Groups.{pass_played}
use Rattle.plans.proofs.plan_runs.plan_runs_at.Goals as goal

pub returns-clause-planned : goal.returns-clause-planned
unfolding begun_at
returns-clause-planned c = λ plan whole.
    let all : c.play_words.new.self ≡ plays plan (begun_at (world_of c.args.machine)) =
    pass_played c.again.result _ _ c.with_room-player.result c.play_words.new.self plan c.in_ok-play_words.ensures.played (c.again.ensures ∙ sym whole)
    ∙ ap (plays plan) c.with_room-player.ensures in
    record {
      choices = c.into_planned.ensures.choices ∙ ap (λ (p : Progress). p.choices) all;
      world = c.into_planned.ensures.world ∙ ap (λ (p : Progress). p.world) all;
      stopped = c.into_planned.ensures.stopped ∙ ap (λ (p : Progress). p.stopped) all;
    }
