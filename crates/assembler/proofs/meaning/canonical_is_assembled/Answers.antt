use Rattle.line_reader.specs.Listing.{canonical}
use Rattle.assembler.proofs.{CanonicalMeaning.canonical-stands_for, ReadLines.stands_for-assembled}
use Rattle.assembler.proofs.meaning.canonical_is_assembled.Goals as goal

pub returns : goal.returns
returns c = λ i is. stands_for-assembled (canonical i) i (canonical-stands_for i is)
