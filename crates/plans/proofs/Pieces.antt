-- The words of a line, one piece after the other.
use Rattle.std.proofs.Common.{◌≡◌, ◌∙◌, ◌+◌, ◌<◌, ◌==◌, ℕ, suc, Bool, true, false, cond, not, List, [], ◌∷◌, ◌++◌, length, take, drop, refl, sym, ap, arith, ◌||◌, if◌then◌else◌, slice_index_or}
use Rattle.std.proofs.lemmas.Bool.Decides.{nat_tests}
use Rattle.std.specs.List.{filter, onto_first, position_or_len, slice_split}
use Rattle.line_reader.specs.Words.{is_blank, words_in}
use Rattle.plans.specs.Cutting.{parts_words, word_alone}
use Rattle.plans.specs.Words.{begins_count, blank_behind, is_parenthesis, spread}

abbrev kept : List (List ℕ) → List (List ℕ)
kept pieces = filter (λ piece. not (length piece == 0)) pieces

kept_piece : (piece : List ℕ) (pieces : List (List ℕ)) → kept (piece ∷ pieces) ≡ word_alone piece ++ kept pieces
kept_piece piece pieces = grind (arith, nat_tests)

-- the first piece between blanks is what stands before the first byte that parts words, and the others hold the words of the rest
record IsCut (text : List ℕ) : Type 0 where
  pub others : List (List ℕ)
  pub pieces : slice_split is_blank (spread text) ≡ take (position_or_len parts_words text) text ∷ others
  pub words : kept others ≡ words_in (spread (drop (position_or_len parts_words text) text))

cut_by : (parenthesis blank : Bool) (byte : ℕ) (rest : List ℕ) → is_parenthesis byte ≡ parenthesis → is_blank byte ≡ blank
    → IsCut rest → IsCut (byte ∷ rest)
cut_by true blank byte rest is other cut =
    let here : position_or_len parts_words (byte ∷ rest) ≡ 0 =
    ap (λ b. cond (not (b || is_blank byte)) (1 + position_or_len parts_words rest) 0) is in
    let after = slice_split is_blank (byte ∷ (blank_behind byte rest ++ spread rest)) in
    let whole : spread (byte ∷ rest) ≡ 32 ∷ byte ∷ (blank_behind byte rest ++ spread rest) =
    ap (λ b. (if b then 32 ∷ byte ∷ blank_behind byte rest else byte ∷ []) ++ spread rest) is in
    record {
      others = after;
      pieces = ap (slice_split is_blank) whole ∙ ap (λ n. take n (byte ∷ rest) ∷ after) (sym here);
      words = sym (ap (λ n. words_in (spread (drop n (byte ∷ rest)))) here ∙ ap words_in whole);
    }
cut_by false true byte rest is other cut =
    let here : position_or_len parts_words (byte ∷ rest) ≡ 0 =
    ap (λ b. cond (not (b || is_blank byte)) (1 + position_or_len parts_words rest) 0) is
    ∙ ap (λ b. cond (not b) (1 + position_or_len parts_words rest) 0) other in
    let after = slice_split is_blank (spread rest) in
    let whole : slice_split is_blank (spread (byte ∷ rest)) ≡ [] ∷ after =
    ap (λ b. slice_split is_blank ((if b then 32 ∷ byte ∷ blank_behind byte rest else byte ∷ []) ++ spread rest)) is
    ∙ ap (λ b. cond b ([] ∷ after) (onto_first byte after)) other in
    record {
      others = after;
      pieces = whole ∙ ap (λ n. take n (byte ∷ rest) ∷ after) (sym here);
      words = sym (ap (λ n. words_in (spread (drop n (byte ∷ rest)))) here ∙ ap kept whole);
    }
cut_by false false byte rest is other cut =
    let n = position_or_len parts_words rest in
    let here : position_or_len parts_words (byte ∷ rest) ≡ 1 + n =
    ap (λ b. cond (not (b || is_blank byte)) (1 + n) 0) is ∙ ap (λ b. cond (not b) (1 + n) 0) other in
    let whole : slice_split is_blank (spread (byte ∷ rest)) ≡ (byte ∷ take n rest) ∷ cut.others =
    ap (λ b. slice_split is_blank ((if b then 32 ∷ byte ∷ blank_behind byte rest else byte ∷ []) ++ spread rest)) is
    ∙ ap (λ b. cond b ([] ∷ slice_split is_blank (spread rest)) (onto_first byte (slice_split is_blank (spread rest)))) other
    ∙ ap (onto_first byte) cut.pieces in
    let one : 1 + n ≡ suc n = omega arith in
    record {
      others = cut.others;
      pieces = whole ∙ ap (λ k. take k (byte ∷ rest) ∷ cut.others) (sym (here ∙ one));
      words = cut.words ∙ ap (λ k. words_in (spread (drop k (byte ∷ rest)))) (sym (here ∙ one));
    }

cut : (text : List ℕ) → IsCut text
cut [] = record { others = []; pieces = refl; words = refl }
cut (byte ∷ rest) = cut_by (is_parenthesis byte) (is_blank byte) byte rest refl refl (cut rest)

-- what stands before the first byte that parts words is a word, if it is anything
pub piece_cut : (text : List ℕ)
    → words_in (spread text) ≡ word_alone (take (position_or_len parts_words text) text) ++ words_in (spread (drop (position_or_len parts_words text) text))
piece_cut text =
    let first = cut text in
    grind (arith, kept_piece)

-- a parenthesis is one, with its count if it has one
pub count_cut : (line : List ℕ) (byte : ℕ) → 0 < length line → slice_index_or line 0 byte ≡ 41 → begins_count (drop 1 line) ≡ true
    → words_in (spread line)
    ≡ word_alone (take (position_or_len parts_words (drop 1 line) + 1) line)
    ++ words_in (spread (drop (position_or_len parts_words (drop 1 line) + 1) line))
count_cut [] byte some is counts = absurd (omega (arith, some))
count_cut (first ∷ rest) byte some is counts =
    let front = cut rest in
    let n = position_or_len parts_words rest in
    let next : n + 1 ≡ suc n = omega arith in
    ap (λ b. words_in (spread (b ∷ rest))) is
    ∙ ap (λ b. words_in (32 ∷ 41 ∷ ((if b then [] else 32 ∷ []) ++ spread rest))) counts
    ∙ ap (λ ps. kept (onto_first 41 ps)) front.pieces
    ∙ kept_piece (41 ∷ take n rest) front.others
    ∙ ap (λ ws. (41 ∷ take n rest) ∷ ws) front.words
    ∙ ap (λ b. (b ∷ take n rest) ∷ words_in (spread (drop n rest))) (sym is)
    ∙ ap (λ k. word_alone (take k (first ∷ rest)) ++ words_in (spread (drop k (first ∷ rest)))) (sym next)
