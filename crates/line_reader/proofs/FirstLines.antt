-- The first line of a text, read up to a rest.
use Rattle.std.proofs.Common.{◌≡◌, ◌∙◌, ℕ, suc, ◌+◌, ◌-◌, ◌<◌, ◌==◌, Bool, true, false, cond, not, ◌&&◌, List, [], ◌∷◌, ◌++◌, length, take, drop, get_or, refl, sym, ap, subst, arith, take-append-drop, rules, eqb-true, append_assoc, length-append, length-drop, length-take-le, take_all}
use Rattle.std.proofs.{Math.Seq.drop-append-add, Math.Seq.take-append-add, lemmas.Bool.Decides.nat_tests, lemmas.List.drop_all}
use Rattle.std.proofs.lemmas.List.Folds.{list_all-append}
use Rattle.std.proofs.lemmas.List.Splits.{length-slice_split, slice_split_at, slice_split_first, slice_split_none}
use Rattle.std.proofs.lemmas.List.Sums.{fails_before_first, list_all-from_AllPass, AllPass-from_list_all, position_or_len_is, prefix_len-le-length}
use Rattle.std.specs.List.{filter, position_or_len, slice_split, before_first, after_first, list_all}
use Rattle.line_reader.specs.Words.{begins_comment, is_allowed, is_blank, is_line_end, lines_of, words_in, words_of}
use Rattle.line_reader.specs.FirstLine.{IsLeft, after_line, first_line, is_letter, word_alone}
use Rattle.line_reader.proofs.Steps.{both_true, not_false, or_right}

-- ---- bytes

both : (a b : Bool) → a ≡ true → b ≡ true → (a && b) ≡ true
both a b e h = ap (λ x. x && b) e ∙ h

allowed_no_end : (byte : ℕ) → is_allowed byte ≡ true → is_line_end byte ≡ false
allowed_no_end byte a = grind (arith, eqb-true)

-- what stands in a line and begins no comment, as letters and blanks
abbrev is_calm : ℕ → Bool
is_calm byte = is_allowed byte && not (begins_comment byte)

letter_calm : (byte : ℕ) → is_letter byte ≡ true → is_calm byte ≡ true
letter_calm byte h = grind (arith, both_true, nat_tests, both, or_right)

-- a blank is allowed, and begins no comment
blank_calm : (byte : ℕ) → is_blank byte ≡ true → is_calm byte ≡ true
blank_calm byte h = grind (arith, eqb-true)

-- ---- the first byte of a kind, in a text of one byte more

later : (p : ℕ → Bool) (byte : ℕ) (bytes : List ℕ) → p byte ≡ false →
    position_or_len p (byte ∷ bytes) ≡ suc (position_or_len p bytes)
later p byte bytes h = grind arith

here : (p : ℕ → Bool) (byte : ℕ) (bytes : List ℕ) → p byte ≡ true → position_or_len p (byte ∷ bytes) ≡ 0
here p byte bytes h = ap (λ b. cond (not b) (1 + position_or_len p bytes) 0) h

-- ---- what a piece without a byte of a kind moves on

beyond : (p : ℕ → Bool) (piece rest : List ℕ) → list_all (λ b. not (p b)) piece ≡ true →
    position_or_len p (piece ++ rest) ≡ length piece + position_or_len p rest
beyond p [] rest h = omega arith
beyond p (byte ∷ bytes) rest h = grind (arith, beyond p bytes rest)

before_beyond : (p : ℕ → Bool) (piece rest : List ℕ) → list_all (λ b. not (p b)) piece ≡ true →
    before_first p (piece ++ rest) ≡ piece ++ before_first p rest
before_beyond p piece rest h =
    ap (λ n. take n (piece ++ rest)) (beyond p piece rest h) ∙ take-append-add piece rest (position_or_len p rest)

after_beyond : (p : ℕ → Bool) (piece rest : List ℕ) → list_all (λ b. not (p b)) piece ≡ true →
    after_first p (piece ++ rest) ≡ after_first p rest
after_beyond p piece rest h = grind (arith, beyond, drop-append-add)

-- ---- a calm piece, and what is left behind it

all_are : (p q : ℕ → Bool) → ((byte : ℕ) → p byte ≡ true → q byte ≡ true) → (piece : List ℕ) →
    list_all p piece ≡ true → list_all q piece ≡ true
all_are p q each piece h = grind (arith, list_all-from_AllPass, AllPass-from_list_all)

pub moved : (text rest piece tail : List ℕ) → IsLeft text rest → piece ++ tail ≡ rest → list_all is_calm piece ≡ true → IsLeft text tail
moved text rest piece tail left whole calm = grind (arith, beyond, length-append, after_beyond, before_beyond, list_all-append, all_are, both_true)

-- what stands before the comment of the first line
abbrev spoken : List ℕ → List ℕ
spoken text = before_first begins_comment (first_line text)

spoken_beyond : (piece tail : List ℕ) → list_all is_calm piece ≡ true → spoken (piece ++ tail) ≡ piece ++ spoken tail
spoken_beyond piece tail calm = grind (arith, before_beyond, all_are, both_true)

-- where neither a letter nor a blank comes next, nothing does
spoken_none : (tail : List ℕ) → is_letter (get_or tail 0 10) ≡ false → is_blank (get_or tail 0 10) ≡ false →
    list_all is_allowed (first_line tail) ≡ true → spoken tail ≡ []
spoken_none tail l b a = grind arith

-- ---- words

abbrev kept : List (List ℕ) → List (List ℕ)
kept pieces = filter (λ one. not (length one == 0)) pieces

pub kept_piece : (piece : List ℕ) (pieces : List (List ℕ)) → kept (piece ∷ pieces) ≡ word_alone piece ++ kept pieces
kept_piece piece pieces = grind (arith, nat_tests)

no_blanks : (piece : List ℕ) → list_all is_letter piece ≡ true → (k d : ℕ) → k < length piece → is_blank (get_or piece k d) ≡ false
no_blanks piece letters k d there = grind (arith, AllPass-from_list_all, both_true, nat_tests)

-- ---- one step of the reading

-- a slice to its end
pub to_end : (text : List ℕ) (n : ℕ) → take (length text - n) (drop n text) ≡ drop n text
to_end text n = grind (arith, length-drop, take_all)

abbrev is_end : ℕ → Bool
is_end byte = not (is_letter byte)

-- the letters that a text begins with, and what follows them
pub record IsPiece (text piece tail : List ℕ) : Type 0 where
  pub whole : piece ++ tail ≡ text
  pub letters : list_all is_letter piece ≡ true
  pub next : is_letter (get_or tail 0 10) ≡ false

abbrev Parted : List ℕ → ℕ → Type 0
Parted text k = (list_all is_letter (take k text) ≡ true) × (is_letter (get_or (drop k text) 0 10) ≡ false)

parted_by : (b : Bool) (byte : ℕ) (bytes : List ℕ) → is_letter byte ≡ b → Parted bytes (position_or_len is_end bytes) →
    Parted (byte ∷ bytes) (position_or_len is_end (byte ∷ bytes))
parted_by true byte bytes is h =
    subst (Parted (byte ∷ bytes)) (sym (later is_end byte bytes (ap not is)))
    (both (is_letter byte) (list_all is_letter (before_first is_end bytes)) is h.0, h.1)
parted_by false byte bytes is h = subst (Parted (byte ∷ bytes)) (sym (here is_end byte bytes (ap not is))) (refl, is)

parted : (text : List ℕ) → Parted text (position_or_len is_end text)
parted [] = (refl, refl)
parted (byte ∷ bytes) = parted_by (is_letter byte) byte bytes refl (parted bytes)

pub piece_at : (text : List ℕ) (n : ℕ) → n ≡ position_or_len is_end text →
    IsPiece text (take n text) (take (length text - n) (drop n text))
piece_at text n is =
    let at : Parted text n = subst (Parted text) (sym is) (parted text) in
    grind (arith, to_end, take-append-drop)

-- behind the piece, and behind a blank that follows it
pub left_behind : (text rest piece tail : List ℕ) → IsLeft text rest → IsPiece rest piece tail → IsLeft text tail
left_behind text rest piece tail left is =
    moved text rest piece tail left is.whole (all_are is_letter is_calm letter_calm piece is.letters)

pub left_behind_blank : (text tail : List ℕ) → IsLeft text tail → is_blank (get_or tail 0 10) ≡ true →
    IsLeft text (take (length tail - 1) (drop 1 tail))
left_behind_blank text [] left blank = absurd (cc)
left_behind_blank text (byte ∷ tail) left blank =
    subst (IsLeft text) (sym (to_end (byte ∷ tail) 1))
    (moved text (byte ∷ tail) (byte ∷ []) tail left refl (both (is_calm byte) true (blank_calm byte blank) refl))

pub words_behind : (words all : List (List ℕ)) (rest piece tail : List ℕ) → all ≡ words ++ word_alone piece →
    IsPiece rest piece tail → is_blank (get_or tail 0 10) ≡ true →
    words ++ words_of (first_line rest) ≡ all ++ words_of (first_line (take (length tail - 1) (drop 1 tail)))
words_behind words all rest piece [] more is blank = absurd (cc)
words_behind words all rest piece (byte ∷ tail) more is blank =
    ap (λ x. words ++ x) (ap (λ t. words_of (first_line t)) (sym is.whole)
    ∙ ap words_in (spoken_beyond piece (byte ∷ tail) (all_are is_letter is_calm letter_calm piece is.letters)
    ∙ ap (λ t. piece ++ t) (spoken_beyond (byte ∷ []) tail (both (is_calm byte) true (blank_calm byte blank) refl)))
    ∙ ap kept (slice_split_at is_blank piece byte (spoken tail) (no_blanks piece is.letters) blank)
    ∙ kept_piece piece (slice_split is_blank (spoken tail)))
    ∙ sym (append_assoc words (word_alone piece) (words_in (spoken tail))) ∙ ap (λ x. x ++ words_in (spoken tail)) (sym more)
    ∙ ap (λ t. all ++ words_of (first_line t)) (sym (to_end (byte ∷ tail) 1))

-- the last word
pub words_end : (rest piece tail : List ℕ) → IsPiece rest piece tail → is_blank (get_or tail 0 10) ≡ false →
    list_all is_allowed (first_line tail) ≡ true → words_of (first_line rest) ≡ word_alone piece
words_end rest piece tail is blank a = search (rules, spoken_beyond, all_are, letter_calm, spoken_none, slice_split_none, no_blanks, kept_piece)

-- ---- the end of a line

abbrev is_forbidden : ℕ → Bool
is_forbidden byte = not (is_allowed byte)

further_allowed : (byte : ℕ) (bytes : List ℕ) → is_line_end byte ≡ false →
    list_all is_allowed (first_line (byte ∷ bytes)) ≡ (is_allowed byte && list_all is_allowed (first_line bytes))
further_allowed byte bytes e = grind (arith, later)

end_by : (byte : ℕ) (bytes : List ℕ) (allowed : Bool) → is_allowed byte ≡ allowed →
    is_line_end (get_or bytes (position_or_len is_forbidden bytes) 10) ≡ list_all is_allowed (first_line bytes) →
    is_line_end (get_or (byte ∷ bytes) (position_or_len is_forbidden (byte ∷ bytes)) 10) ≡ list_all is_allowed (first_line (byte ∷ bytes))
end_by byte bytes true a h = grind (arith, later, further_allowed, allowed_no_end)
end_by byte bytes false a h = grind (arith, here, further_allowed)

-- the first byte that is not allowed ends the line, where each byte of it is allowed
pub end_of : (text : List ℕ) → is_line_end (get_or text (position_or_len is_forbidden text) 10) ≡ list_all is_allowed (first_line text)
end_of [] = refl
end_of (byte ∷ bytes) = end_by byte bytes (is_allowed byte) refl (end_of bytes)

pub end_at : (text : List ℕ) → list_all is_allowed (first_line text) ≡ true → position_or_len is_line_end text ≡ position_or_len is_forbidden text
end_at text a =
    position_or_len_is is_line_end text (position_or_len is_forbidden text) 10 (prefix_len-le-length (λ b. not (is_forbidden b)) text)
    (λ k there. allowed_no_end (get_or text k 10) (not_false _ (fails_before_first is_forbidden text k 10 there)))
    (λ there. end_of text ∙ a)

pub first_long : (text : List ℕ) → length (first_line text) ≡ position_or_len is_line_end text
first_long text = grind (arith, length-take-le, prefix_len-le-length)

-- ---- the first line among all

-- the lines of a text are its first one, and those behind it
pub lines_first : (text : List ℕ) → 0 < length text → lines_of text ≡ first_line text ∷ lines_of (after_line text)
lines_first text some = grind (arith, nat_tests, length-slice_split, slice_split_first, slice_split_none, fails_before_first, take_all, drop_all)

pub shorter_after : (text : List ℕ) → 0 < length text → length (after_line text) < length text
shorter_after text some = let long = length-drop (position_or_len is_line_end text + 1) text in omega (arith, some, long)
