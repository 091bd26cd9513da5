use Rattle.std.proofs.Common.{rules, ◌≤◌, length}
use Rattle.commands.proofs.PlanParts.{few_names}
use Rattle.commands.proofs.plan.loaded_program.Goals as goal

pub returns-in-Ok-thread_names-clause-few : goal.returns-in-Ok-thread_names-clause-few
returns-in-Ok-thread_names-clause-few c =
    let few : length c.threads.result.now ≤ 64 = search rules in
    few_names c.args.names.now c.in-Ok-thread_names.names.items (length c.threads.result.now) c.in-Ok-thread_names.ensures few
