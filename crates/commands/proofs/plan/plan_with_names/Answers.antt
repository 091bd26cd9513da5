use Rattle.commands.proofs.PlanParts.{named_written}
use Rattle.commands.proofs.plan.plan_with_names.Goals as goal

pub returns-clause-done : goal.returns-clause-done
returns-clause-done g c =
    named_written c.args.most c.push_planned.result c.in_ok-planned.planned c.args.program c.in_ok-planned.names.items c.as_slice.result.now
    c.args.plan.now _ _ c.in_ok-planned.ensures.planned c.in_ok-planned.ensures.names c.as_slice.ensures.value
    c.in_ok-planned.ensures.runs c.push_planned.ensures.stopped c.push_planned.ensures.bytes
