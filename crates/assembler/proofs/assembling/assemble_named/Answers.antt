use Rattle.std.proofs.Common.{[], Ok, sym, subst}
use Rattle.row_code.specs.Image.{IsImage}
use Rattle.line_reader.specs.Words.{lines_of}
use Rattle.assembler.specs.Meaning.{image_of}
use Rattle.assembler.proofs.ImageRanges.{said_image}
use Rattle.assembler.proofs.ReadLines.{assembled-stands_for, lines_take, looked_up_answered}
use Rattle.assembler.proofs.assembling.assemble_named.Goals as goal

pub image_of-requires : goal.image_of-requires
image_of-requires c =
    let texts = lines_of c.args.text.now in
    let said = lines_take 1 [] texts c.in-Ok.read.0 c.in-Ok.ensures.read in
    record { fits = subst (λ lines. IsImage (image_of lines)) (sym said.1) (said_image 1 texts said.0 said.2 said.3) }

pub returns-in-Ok-symbols_of-clause-found : goal.returns-in-Ok-symbols_of-clause-found
returns-in-Ok-symbols_of-clause-found c =
    let image = c.in-Ok-image_of.image in
    let text = c.args.text.now in
    assembled-stands_for text image
    (looked_up_answered text c.in-Ok.read.0 (Ok image) c.in-Ok.ensures.read c.in-Ok-image_of.ensures.found)
