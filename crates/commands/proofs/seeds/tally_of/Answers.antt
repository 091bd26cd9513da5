use Rattle.commands.proofs.seeds.tally_of.Goals as goal

pub returns-in-Ok-sort-clause-outcomes : goal.returns-in-Ok-sort-clause-outcomes
returns-in-Ok-sort-clause-outcomes c =
    let so = c.in-Ok.ensures.outcomes in
    (so.0, (so.1.0, so.1.1, c.in-Ok-sort.ensures.same so.0 so.1.2, so.1.3))
