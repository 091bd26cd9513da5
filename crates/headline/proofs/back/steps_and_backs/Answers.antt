use Rattle.std.proofs.Common.{◌∙◌, ap}
use Rattle.debugger.specs.Session.{Session}
use Rattle.headline.proofs.Backs.{back_restores}
use Rattle.headline.proofs.back.steps_and_backs.Goals as goal

pub returns-clause-restores : goal.returns-clause-restores
returns-clause-restores c =
    let steps = c.in_ok-events.ensures in (
      steps.accepted,
      steps.events,
      ap (λ (s : Session). s.machine) c.backs.ensures
          ∙ back_restores c.args.debugger.now c.steps.new.debugger c.args.choices.now c.requires steps.steps,
    )
