use Rattle.std.proofs.Common.{refl, Ok}
use Rattle.commands.proofs.PlanParts.{comes_of_plan}
use Rattle.commands.proofs.plan.planned_of.Goals as goal

pub returns-in-Ok-clause-planned : goal.returns-in-Ok-clause-planned
returns-in-Ok-clause-planned c =
    comes_of_plan c.args.most c.args.program c.args.program.image c.in_ok-loaded.loaded c.in_ok-loaded.names.items c.as_slice.result.now c.args.plan.now
    (Ok c.in-Ok.planned) refl c.as_slice.ensures.value c.in_ok-loaded.ensures.program c.in_ok-loaded.ensures.names c.in-Ok.ensures.planned
