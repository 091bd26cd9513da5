use Rattle.trace_compare.proofs.Verdicts.{compared}
use Rattle.trace_compare.proofs.judged.compare.Goals as goal

pub returns-in-Ok-clause-outcome : goal.returns-in-Ok-clause-outcome
returns-in-Ok-clause-outcome g c =
    compared c.args.image c.in-Ok.judged.told c.verdict.result _ _ c.verdict.ensures c.in-Ok.ensures.outcome
