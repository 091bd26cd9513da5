use Rattle.assembler.proofs.ReadLines.{one_image}
use Rattle.assembler.proofs.meaning.one_image.Goals as goal

pub returns : goal.returns
returns c = one_image
