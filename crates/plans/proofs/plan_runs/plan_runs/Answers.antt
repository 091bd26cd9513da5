use Rattle.std.proofs.Common.{◌≡◌, ◌∙◌, sym, ap}
use Rattle.plans.specs.{Progress.Progress, Progress.begun, Play.plays}
use Rattle.plans.proofs.Groups.{pass_played}
use Rattle.plans.proofs.plan_runs.plan_runs.Goals as goal

pub returns-clause-planned : goal.returns-clause-planned
returns-clause-planned c = λ plan whole.
    let all : c.play_words.new.self ≡ plays plan (begun c.args.program c.args.most) =
    pass_played c.again.result _ _ c.in_ok-player.player c.play_words.new.self plan c.in_ok-play_words.ensures.played (c.again.ensures ∙ sym whole)
    ∙ ap (plays plan) c.in_ok-player.ensures in
    record {
      choices = c.into_planned.ensures.choices ∙ ap (λ (p : Progress). p.choices) all;
      world = c.into_planned.ensures.world ∙ ap (λ (p : Progress). p.world) all;
      stopped = c.into_planned.ensures.stopped ∙ ap (λ (p : Progress). p.stopped) all;
    }
