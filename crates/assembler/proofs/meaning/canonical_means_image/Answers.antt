use Rattle.assembler.proofs.CanonicalMeaning.{canonical-stands_for}
use Rattle.assembler.proofs.meaning.canonical_means_image.Goals as goal

pub returns : goal.returns
returns c = canonical-stands_for
