use Rattle.commands.proofs.ListedRows.{one_listing}
use Rattle.commands.proofs.law.a_file_has_one_listing.Goals as goal

pub returns : goal.returns
returns c = one_listing
