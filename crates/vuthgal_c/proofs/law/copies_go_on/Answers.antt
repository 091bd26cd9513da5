use Rattle.vuthgal_c.proofs.Conversations.{go_on}
use Rattle.vuthgal_c.proofs.law.copies_go_on.Goals as goal

pub returns : goal.returns
returns c = go_on
