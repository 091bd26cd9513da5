use Rattle.std.proofs.Common.{length}
use Rattle.refusals.proofs.table.row.+entry_at.Given as goal

abbrev pub decreases-entry_at : goal.decreases-entry_at
decreases-entry_at l = length l.tables.now
