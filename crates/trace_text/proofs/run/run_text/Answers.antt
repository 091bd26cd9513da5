use Rattle.trace_text.proofs.run.run_text.Goals as goal

pub returns-clause-ends : goal.returns-clause-ends
returns-clause-ends g c = (c.in-Ok.end, c.in-Ok.ensures.outcome)
