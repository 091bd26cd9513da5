-- The words of a text, one piece after the other.
use Rattle.std.proofs.Common.{◌≡◌, ℕ, ◌+◌, ◌-◌, List, ◌++◌, length, take, drop, Some, None, arith, length-drop, length-take}
use Rattle.std.proofs.lemmas.List.{drop_all, Splits.slice_split_first, Splits.slice_split_none, Sums.fails_before_first}
use Rattle.std.specs.List.{position, slice_split}
use Rattle.line_reader.specs.{Words.is_blank, Words.words_in, FirstLine.word_alone}
use Rattle.line_reader.proofs.Places.{position_some, position_within, position_none}
use Rattle.line_reader.proofs.FirstLines.{kept_piece, to_end}
use Rattle.assembler.specs.Placed.{places_from, with_piece}

pub word_at : (text : List ℕ) (place : ℕ) → Some place ≡ position is_blank text →
    words_in text ≡ word_alone (take place text) ++ words_in (take (length text - (place + 1)) (drop (place + 1) text))
word_at text place found = grind (arith, position_some, position_within, slice_split_first, kept_piece, to_end)

pub word_whole : (text : List ℕ) → None ≡ position is_blank text →
    words_in text ≡ word_alone text ++ words_in (take (length text - length text) (drop (length text) text))
word_whole text none = grind (arith, position_none, slice_split_none, fails_before_first, kept_piece, to_end, drop_all)

-- the places of the words of a text, one piece after the other

pub places_at : (text : List ℕ) (place begin : ℕ) → Some place ≡ position is_blank text →
    let rest = take (length text - (place + 1)) (drop (place + 1) text) in
    places_from begin (slice_split is_blank text)
    ≡ with_piece begin (length (take place text)) (places_from (begin + (length text - length rest)) (slice_split is_blank rest))
places_at text place begin found = grind (arith, position_some, position_within, slice_split_first, to_end, length-take, length-drop)

pub places_whole : (text : List ℕ) (begin : ℕ) → None ≡ position is_blank text →
    let rest = take (length text - length text) (drop (length text) text) in
    places_from begin (slice_split is_blank text)
    ≡ with_piece begin (length text) (places_from (begin + (length text - length rest)) (slice_split is_blank rest))
places_whole text begin none = grind (arith, position_none, slice_split_none, fails_before_first, to_end, drop_all)
