use Rattle.std.proofs.Common.{rules, ◌≡◌, map}
use Rattle.line_reader.specs.Seen.{name_seen}
use Rattle.commands.proofs.PlanParts.{plan_played}
use Rattle.commands.proofs.plan.planned_on.Goals as goal

pub returns-in-Ok-plan_runs-clause-planned : goal.returns-in-Ok-plan_runs-clause-planned
returns-in-Ok-plan_runs-clause-planned c =
    let also : c.all.result ≡ c.in-Ok.words = search rules in
    plan_played c.args.most (map name_seen c.args.names.now) c.args.plan.now c.args.program c.in-Ok-plan_runs.planned c.in-Ok.words c.all.result
    c.in-Ok.ensures.words c.in-Ok.ensures.whole also c.in-Ok-plan_runs.ensures.planned
