use Rattle.std.proofs.Common.{map}
use Rattle.line_reader.specs.Seen.{name_seen}
use Rattle.commands.proofs.Seeded.{seed_played}
use Rattle.commands.proofs.seeds.add_order.Goals as goal

pub returns-in-Ok-add_planned-clause-added : goal.returns-in-Ok-add_planned-clause-added
returns-in-Ok-add_planned-clause-added c = λ runs are.
    let (run, (of, more, unlike)) = c.in-Ok-add_planned.ensures runs are in
    let played = c.in-Ok.ensures.planned in
    (run, (seed_played c.args.program.now (map name_seen c.args.names.now) c.args.plan.now c.args.seeds.now.limit c.args.seed c.in-Ok.planned run played c.in-Ok.ensures.runs of, more, unlike))
