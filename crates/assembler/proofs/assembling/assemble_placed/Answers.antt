use Rattle.std.proofs.Common.{[], Err, sym, subst}
use Rattle.row_code.specs.Image.{IsImage}
use Rattle.line_reader.specs.Words.{lines_of}
use Rattle.assembler.specs.{Meaning.StandsFor, Meaning.image_of, Answers.unplaced}
use Rattle.assembler.proofs.{FirstPass.placed_name, ImageRanges.said_image}
use Rattle.assembler.proofs.ReadLines.{answers_stand, fault_answered, lines_take, looked_up_answered, stands_answered, unplaced_ok}
use Rattle.assembler.proofs.assembling.assemble_placed.Goals as goal

pub image_of-requires : goal.image_of-requires
image_of-requires c =
    let texts = lines_of c.args.text.now in
    let said = lines_take 1 [] texts c.in-Ok.read.0 c.in-Ok.ensures.read in
    record { fits = subst (λ lines. IsImage (image_of lines)) (sym said.1) (said_image 1 texts said.0 said.2 said.3) }

pub returns-in-Err-clause-only : goal.returns-in-Err-clause-only
returns-in-Err-clause-only c =
    stands_answered c.args.text.now (Err c.in-Err.fault.fault) (fault_answered c.args.text.now c.in-Err.fault.fault c.in-Err.ensures.read)

pub returns-clause-found : goal.returns-clause-found
returns-clause-found c =
    unplaced_ok (StandsFor c.args.text.now) c.image_of.result
    (answers_stand c.args.text.now (unplaced c.image_of.result)
    (looked_up_answered c.args.text.now c.in-Ok.read.0 (unplaced c.image_of.result) c.in-Ok.ensures.read c.image_of.ensures.found))

pub returns-clause-only : goal.returns-clause-only
returns-clause-only c =
    stands_answered c.args.text.now (unplaced c.image_of.result)
    (looked_up_answered c.args.text.now c.in-Ok.read.0 (unplaced c.image_of.result) c.in-Ok.ensures.read c.image_of.ensures.found)

pub returns-clause-exact : goal.returns-clause-exact
returns-clause-exact c =
    looked_up_answered c.args.text.now c.in-Ok.read.0 (unplaced c.image_of.result) c.in-Ok.ensures.read c.image_of.ensures.found

pub returns-clause-place : goal.returns-clause-place
returns-clause-place c =
    placed_name c.args.text.now c.in-Ok.read.0 c.image_of.result c.in-Ok.ensures.read c.image_of.ensures.place
