use Rattle.commands.proofs.PlanParts.{plan_written}
use Rattle.commands.proofs.plan.plan.Goals as goal

pub returns-clause-done : goal.returns-clause-done
returns-clause-done g c =
    plan_written c.args.most c.push_planned.result c.in_ok-planned.planned c.args.program c.args.plan.now _ _
    c.in_ok-planned.ensures.planned c.in_ok-planned.ensures.runs c.push_planned.ensures.stopped c.push_planned.ensures.bytes
