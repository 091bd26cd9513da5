use Rattle.std.proofs.Common.{◌∙◌, sym}
use Rattle.assembler.proofs.Pieces.{places_at, places_whole, word_at, word_whole}
use Rattle.assembler.proofs.word_place.first_piece.Goals as goal

pub returns-in-Some-clause-words : goal.returns-in-Some-clause-words
returns-in-Some-clause-words c = word_at c.args.text.now c.in-Some.place (sym c.in-Some.is ∙ c.place_of_blank.ensures)

pub returns-in-None-clause-words : goal.returns-in-None-clause-words
returns-in-None-clause-words c = word_whole c.args.text.now (sym c.in-None.is ∙ c.place_of_blank.ensures)

pub returns-in-Some-clause-places : goal.returns-in-Some-clause-places
returns-in-Some-clause-places c = λ begin. places_at c.args.text.now c.in-Some.place begin (sym c.in-Some.is ∙ c.place_of_blank.ensures)

pub returns-in-None-clause-places : goal.returns-in-None-clause-places
returns-in-None-clause-places c = λ begin. places_whole c.args.text.now begin (sym c.in-None.is ∙ c.place_of_blank.ensures)
