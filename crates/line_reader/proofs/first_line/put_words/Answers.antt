use Rattle.std.proofs.Common.{◌∙◌, ◌++◌, ap, map, sym}
use Rattle.line_reader.specs.Seen.{name_seen}
use Rattle.line_reader.proofs.FirstLines.{left_behind, left_behind_blank, piece_at, words_behind, words_end}
use Rattle.line_reader.proofs.first_line.put_words.Goals as goal

pub returns-then-not-begins_blank-clause-left : goal.returns-then-not-begins_blank-clause-left
returns-then-not-begins_blank-clause-left c =
    let piece = piece_at c.loop-rest.rest.now c.length_of_word-length.result c.length_of_word-length.ensures.length in
    left_behind c.args.text.now c.loop-rest.rest.now _ _ c.loop-rest.invariant.left piece

pub returns-then-not-begins_blank-clause-words : goal.returns-then-not-begins_blank-clause-words
returns-then-not-begins_blank-clause-words c a =
    let piece = piece_at c.loop-rest.rest.now c.length_of_word-length.result c.length_of_word-length.ensures.length in
    c.loop-rest.invariant.words
    ∙ ap (λ more. map name_seen c.loop-rest.words.items ++ more)
    (words_end c.loop-rest.rest.now _ _ piece (sym c.begins_blank.ensures ∙ c.if-not-begins_blank.true) a)
    ∙ sym c.in_ok-push_piece.ensures

pub loop-rest-preserved : goal.loop-rest-preserved
loop-rest-preserved c =
    let piece = piece_at c.loop-rest.rest.now c.length_of_word-length.result c.length_of_word-length.ensures.length in
    let blank = sym c.begins_blank.ensures ∙ c.if-not-begins_blank.false in
    record {
      left = left_behind_blank c.args.text.now _ (left_behind c.args.text.now c.loop-rest.rest.now _ _ c.loop-rest.invariant.left piece) blank;
      words = c.loop-rest.invariant.words
          ∙ words_behind (map name_seen c.loop-rest.words.items) _ c.loop-rest.rest.now _ _ c.in_ok-push_piece.ensures piece blank;
    }
