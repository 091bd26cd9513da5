use Rattle.vuthgal_c.proofs.Conversations.{see_the_rows}
use Rattle.vuthgal_c.proofs.law.callers_see_the_rows.Goals as goal

pub returns : goal.returns
returns c = see_the_rows
