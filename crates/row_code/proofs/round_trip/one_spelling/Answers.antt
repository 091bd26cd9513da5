use Rattle.row_code.proofs.{Cells.IsBytes-from_All, ImageLaws.image_takes}
use Rattle.row_code.proofs.round_trip.one_spelling.Goals as goal

pub returns : goal.returns
returns c = λ bytes i each read. image_takes bytes i (IsBytes-from_All bytes each) read
