use Rattle.std.proofs.Common.{◌≡◌, ◌∙◌, ◌+◌, ◌++◌, drop, take, ap, sym, true}
use Rattle.std.specs.List.{position_or_len}
use Rattle.line_reader.specs.Words.{words_in}
use Rattle.plans.specs.{Cutting.parts_words, Cutting.word_alone, Words.begins_count, Words.spread}
use Rattle.plans.proofs.Pieces.{piece_cut, count_cut}
use Rattle.plans.proofs.cutting.word_length.Goals as goal

pub returns-then-not-is_parenthesis-clause-word : goal.returns-then-not-is_parenthesis-clause-word
returns-then-not-is_parenthesis-clause-word c =
    piece_cut c.args.line.now
    ∙ ap (λ n. word_alone (take n c.args.line.now) ++ words_in (spread (drop n c.args.line.now))) (sym c.length_to_part.ensures.length)

pub returns-then-begins_count-clause-word : goal.returns-then-begins_count-clause-word
returns-then-begins_count-clause-word c =
    let counts : begins_count (drop 1 c.args.line.now) ≡ true =
    ap begins_count (sym c.from-rest.ensures) ∙ sym c.begins_count.ensures ∙ c.if-begins_count.true in
    let long : position_or_len parts_words (drop 1 c.args.line.now) ≡ c.length_to_part-then-begins_count.result =
    ap (position_or_len parts_words) (sym c.from-rest.ensures) ∙ sym c.length_to_part-then-begins_count.ensures.length in
    count_cut c.args.line.now _ c.requires c.if-byte-eq41.true counts
    ∙ ap (λ n. word_alone (take (n + 1) c.args.line.now) ++ words_in (spread (drop (n + 1) c.args.line.now))) long
