use Rattle.row_code.proofs.RowLaws.{row_in_bytes_of}
use Rattle.row_code.proofs.round_trip.row_again.Goals as goal

pub returns : goal.returns
returns c = row_in_bytes_of
