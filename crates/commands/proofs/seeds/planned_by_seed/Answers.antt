use Rattle.std.proofs.Common.{◌∙◌, map}
use Rattle.line_reader.specs.Seen.{name_seen}
use Rattle.commands.proofs.Seeded.{copy_played}
use Rattle.commands.proofs.seeds.planned_by_seed.Goals as goal

pub returns-clause-planned : goal.returns-clause-planned
returns-clause-planned c =
    copy_played c.args.program.now _ (map name_seen c.args.names.now) _ _ c.planned_on.result c.in-Ok-copy.ensures
    (c.as_slice.ensures.value ∙ c.in-Ok.ensures) c.planned_on.ensures.planned
