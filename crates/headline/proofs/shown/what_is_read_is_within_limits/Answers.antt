use Rattle.headline.proofs.Showing.{file_image, text_image}
use Rattle.headline.proofs.shown.what_is_read_is_within_limits.Goals as goal

pub returns : goal.returns
returns c = record {
  text = text_image;
  file = file_image;
}
