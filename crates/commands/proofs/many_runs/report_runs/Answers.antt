use Rattle.commands.proofs.Reported.{reported}
use Rattle.commands.proofs.many_runs.report_runs.Goals as goal

pub returns : goal.returns
returns g c =
    reported c.push_outcomes.result c.args.image c.in-Ok.program c.args.asked.now c.in-Ok-outcomes_of.outcomes.entries _ _ _
    c.in-Ok.ensures.none c.in-Ok.ensures.loaded c.in-Ok-outcomes_of.ensures.outcomes
    c.in-Ok-outcomes_of.ensures.sorted c.push_outcomes.ensures.by c.push_outcomes.ensures.report c.push_outcomes.ensures.fault
    c.push_outcomes.ensures.unchanged c.push_outcomes.ensures.write
