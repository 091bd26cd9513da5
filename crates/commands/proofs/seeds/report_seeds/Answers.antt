use Rattle.std.proofs.Common.{rules, map}
use Rattle.line_reader.specs.Seen.{name_seen}
use Rattle.commands.proofs.seeds.report_seeds.Goals as goal

pub returns-in-Ok-clause-done : goal.returns-in-Ok-clause-done
returns-in-Ok-clause-done g c =
    let (loaded, (program, outcomes)) = c.in_ok-tally.ensures.outcomes in (
      loaded,
      (
        map name_seen c.in_ok-tally.names.items,
        (c.in_ok-tally.tally.outcomes.entries, (c.in_ok-tally.ensures.names, program, outcomes, c.in_ok-tally.ensures.sorted, search rules)),
      ),
    )
