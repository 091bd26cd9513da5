use Rattle.refusals.proofs.Words.{in_first, in_others}
use Rattle.refusals.proofs.table.row.+entry_at.Goals as goal

pub returns-in-Some : goal.returns-in-Some
returns-in-Some t c =
    in_first c.args.tables.now _ c.args.place c.in-Some.entry.now c.in-len1-up.len_at_least c.in-Some.ensures.lookup.0 c.in-Some.ensures.lookup.1

pub returns-in-None : goal.returns-in-None
returns-in-None t c =
    in_others c.args.tables.now _ c.args.place c.entry_at.result c.in-len1-up.len_at_least c.in-None.ensures.lookup.0 c.entry_at.ensures
