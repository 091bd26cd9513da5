use Rattle.commands.proofs.many_runs.outcomes_of.Goals as goal

pub returns-in-Ok-clause-outcomes : goal.returns-in-Ok-clause-outcomes
returns-in-Ok-clause-outcomes g c =
    let so = c.in_ok-add_runs.ensures.outcomes in
    (so.0, (so.1.0, so.1.1, c.in-Ok.ensures.same so.0 so.1.2))
