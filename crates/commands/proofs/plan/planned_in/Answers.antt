use Rattle.commands.proofs.PlanParts.{comes_of_plan}
use Rattle.commands.proofs.plan.planned_in.Goals as goal

pub returns-clause-planned : goal.returns-clause-planned
returns-clause-planned c =
    comes_of_plan 1000000 c.args.program.now c.in-Ok.image c.in_ok-loaded.loaded c.in_ok-loaded.names.items c.as_slice.result.now c.args.plan.now
    c.planned_on.result c.in-Ok.ensures c.as_slice.ensures.value c.in_ok-loaded.ensures.program c.in_ok-loaded.ensures.names
    c.planned_on.ensures.planned
