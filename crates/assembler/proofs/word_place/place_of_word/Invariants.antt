use Rattle.std.proofs.Common.{◌≡◌, ◌+◌, length, drop}
use Rattle.std.specs.List.{slice_get, slice_split}
use Rattle.line_reader.specs.Words.{is_blank, words_in}
use Rattle.assembler.specs.Placed.{places_from, places_in}
use Rattle.assembler.proofs.word_place.place_of_word.Given as goal

-- the word that is looked for, and its place, stand among those of the rest, which is what follows the bytes so far
abbrev pub invariant-loop-rest : goal.invariant-loop-rest
invariant-loop-rest l = record {
  place : slice_get (places_in l.text) l.fn.number ≡ slice_get (places_from l.at (slice_split is_blank l.rest)) l.left;
  word : slice_get (words_in l.text) l.fn.number ≡ slice_get (words_in l.rest) l.left;
  rest : l.rest ≡ drop l.at l.text;
  many : l.at + length l.rest ≡ length l.text;
}

abbrev pub decreases-loop-rest : goal.decreases-loop-rest
decreases-loop-rest l = length l.rest
