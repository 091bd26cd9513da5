use Rattle.row_code.proofs.ImageLaws.{image_again}
use Rattle.row_code.proofs.round_trip.image_again.Goals as goal

pub returns : goal.returns
returns c = image_again
