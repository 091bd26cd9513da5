-- Texts of whole lines.
use Rattle.std.proofs.Common.{◌≡◌, ◌∙◌, ◌+◌, ◌/◌, ◌%◌, ◌<◌, ◌≤◌, ◌==◌, not, ℕ, zero, suc, Bool, true, false, List, [], ◌∷◌, ◌++◌, length, take, drop, cond, codes, decimal, refl, ap, sym, subst, arith, append_assoc, length-append, All, flat_map, ℤ, pos, negsuc, ne_eqb, le-leb, lt-ltb}
use Rattle.std.proofs.lemmas.{List.drop_all, List.Folds.list_all-append, Bool.and_from, Bool.and_parts, Bool.not-true}
use Rattle.std.proofs.lemmas.List.{Sums.AllPass-from_list_all, Splits.slice_split_at}
use Rattle.std.proofs.Math.Seq.{take-append_seam, drop-append_seam}
use Rattle.std.specs.{List.slice_split, List.list_all, List.position_or_len, Char.is_ascii_digit}
use Rattle.std.specs.Fmt.{digits, digits_onto, digit_glyph, signed_decimal}
use Rattle.line_reader.specs.Words.{is_line_end}
use Rattle.trace_text.specs.Reading.{HasNoLongLine, after_line, first_line}

-- a byte within a line
abbrev pub is_within : ℕ → Bool
is_within byte = not (byte == 10)

-- a text without an LF, and not longer than this
pub record IsPart (n : ℕ) (text : List ℕ) : Type 0 where
  pub within : list_all is_within text ≡ true
  pub few : length text ≤ n

-- not longer than more
pub Part-more : (m n : ℕ) (text : List ℕ) → m ≤ n → IsPart m text → IsPart n text
Part-more m n text more p = record { within = p.within; few = let a = p.few in omega (arith, a, more) }

-- one part after another
pub Part-append : (m n : ℕ) (xs ys : List ℕ) → IsPart m xs → IsPart n ys → IsPart (m + n) (xs ++ ys)
Part-append m n xs ys p q = grind (arith, list_all-append, and_from, length-append)

pub all_more : (p q : ℕ → Bool) → ((b : ℕ) → p b ≡ true → q b ≡ true) → (xs : List ℕ) → list_all p xs ≡ true → list_all q xs ≡ true
all_more p q more [] all = refl
all_more p q more (x ∷ xs) all =
    and_from _ _ (more x (and_parts _ _ all).0) (all_more p q more xs (and_parts _ _ all).1)

-- the digits of a number, not more than this
pub record IsNumber (n : ℕ) (text : List ℕ) : Type 0 where
  pub digits : list_all is_ascii_digit text ≡ true
  pub few : length text ≤ n
  pub some : 0 < length text

Number-more : (m n : ℕ) (text : List ℕ) → m ≤ n → IsNumber m text → IsNumber n text
Number-more m n text more p = record { digits = p.digits; few = let a = p.few in omega (arith, a, more); some = p.some }

glyph-digit : (d : ℕ) → d < 10 → is_ascii_digit (digit_glyph false d) ≡ true
glyph-digit d small = grind (arith, lt-ltb, and_from, le-leb)

-- by whether a digit is the last to come
number_by : (last : Bool) (k : ℕ) (xs ys : List ℕ) → IsNumber k xs → IsNumber k ys → IsNumber k (cond last xs ys)
number_by true k xs ys p q = p
number_by false k xs ys p q = q

digits-number : (k n m : ℕ) (acc : List ℕ) → IsNumber m acc → IsNumber (k + m) (digits_onto k 10 false n acc)
digits-number zero n m acc p = Number-more m (0 + m) acc (omega arith) p
digits-number (suc k) n m acc p =
    let next : IsNumber (m + 1) (digit_glyph false (n % 10) ∷ acc) = record {
      digits = and_from _ _ (glyph-digit (n % 10) (omega arith)) p.digits;
      few = let a = p.few in omega (arith, a);
      some = omega arith;
    } in
    let more = digits-number k (n / 10) (m + 1) (digit_glyph false (n % 10) ∷ acc) next in
    number_by (n / 10 == 0) (suc k + m) (digit_glyph false (n % 10) ∷ acc) _
    (Number-more (m + 1) (suc k + m) _ (omega arith) next) (Number-more (k + (m + 1)) (suc k + m) _ (omega arith) more)

-- the text of any number
pub decimal-number : (n : ℕ) → IsNumber 64 (decimal n)
unfolding digits
decimal-number n =
    let one : IsNumber 1 (digit_glyph false (n % 10) ∷ []) =
    record { digits = and_from _ _ (glyph-digit (n % 10) (omega arith)) refl; few = omega arith; some = omega arith } in
    number_by (n / 10 == 0) 64 (digit_glyph false (n % 10) ∷ []) (digits_onto 63 10 false (n / 10) (digit_glyph false (n % 10) ∷ []))
    (Number-more 1 64 _ (omega arith) one) (digits-number 63 (n / 10) 1 (digit_glyph false (n % 10) ∷ []) one)

pub decimal-part : (n : ℕ) → IsPart 64 (decimal n)
decimal-part n = record {
  within = all_more is_ascii_digit is_within (λ b digit. ap not (ne_eqb b 10 (λ e. let no : ⊥ = cc in no))) (decimal n) (decimal-number n).digits;
  few = (decimal-number n).few;
}

-- the text of any number with a sign
pub signed-part : (z : ℤ) → IsPart 65 (signed_decimal z)
signed-part (pos n) = Part-more 64 65 (decimal n) (omega arith) (decimal-part n)
signed-part (negsuc n) = Part-append 1 64 (45 ∷ []) (decimal (suc n)) (record { within = refl; few = omega arith }) (decimal-part (suc n))

-- these lines, each with its LF
abbrev pub whole : List (List ℕ) → List ℕ
whole lines = flat_map (λ line. line ++ 10 ∷ []) lines

-- no LF within them
abbrev pub AllWithin : List (List ℕ) → Type 0
AllWithin [] = Unit {0}
AllWithin (line ∷ lines) = (list_all is_within line ≡ true) × AllWithin lines

pub no_end : (line : List ℕ) → list_all is_within line ≡ true → All (λ b. is_line_end b ≡ false) line
no_end line within = λ k d there. not-true _ (AllPass-from_list_all is_within line within k d there)

pub first-is : (line rest : List ℕ) → list_all is_within line ≡ true
    → position_or_len is_line_end (line ++ 10 ∷ rest) ≡ length line
first-is [] rest none = refl
first-is (x ∷ xs) rest none =
    ap (λ b. cond b (1 + position_or_len is_line_end (xs ++ 10 ∷ rest)) 0) (and_parts _ _ none).0
    ∙ ap (λ n. 1 + n) (first-is xs rest (and_parts _ _ none).1) ∙ omega arith

-- a line before others
pub split-line : (line rest : List ℕ) → list_all is_within line ≡ true
    → slice_split is_line_end ((line ++ 10 ∷ []) ++ rest) ≡ line ∷ slice_split is_line_end rest
split-line line rest within = grind (arith, append_assoc, slice_split_at, no_end)

pub first_line-is : (line rest : List ℕ) → list_all is_within line ≡ true → first_line ((line ++ 10 ∷ []) ++ rest) ≡ line ++ 10 ∷ []
first_line-is line rest within =
    ap (λ n. take n ((line ++ 10 ∷ []) ++ rest))
    (ap (λ t. position_or_len is_line_end t + 1) (append_assoc line (10 ∷ []) rest)
    ∙ ap (λ n. n + 1) (first-is line rest within) ∙ sym (length-append line (10 ∷ [])))
    ∙ take-append_seam (line ++ 10 ∷ []) rest

pub after_line-is : (line rest : List ℕ) → list_all is_within line ≡ true → after_line ((line ++ 10 ∷ []) ++ rest) ≡ rest
after_line-is line rest within =
    ap (λ n. drop n ((line ++ 10 ∷ []) ++ rest))
    (ap (λ t. position_or_len is_line_end t + 1) (append_assoc line (10 ∷ []) rest)
    ∙ ap (λ n. n + 1) (first-is line rest within) ∙ sym (length-append line (10 ∷ [])))
    ∙ drop-append_seam (line ++ 10 ∷ []) rest

-- some lines, and others after them
whole-append : (xs ys : List (List ℕ)) → whole (xs ++ ys) ≡ whole xs ++ whole ys
whole-append [] ys = refl
whole-append (x ∷ xs) ys = ap (λ t. (x ++ 10 ∷ []) ++ t) (whole-append xs ys) ∙ sym (append_assoc (x ++ 10 ∷ []) (whole xs) (whole ys))

within-append : (xs ys : List (List ℕ)) → AllWithin xs → AllWithin ys → AllWithin (xs ++ ys)
within-append [] ys p q = q
within-append (x ∷ xs) ys p q = (p.0, within-append xs ys p.1 q)

-- none of them is longer than a comparison reads
abbrev pub AllFew : List (List ℕ) → Type 0
AllFew [] = Unit {0}
AllFew (line ∷ lines) = (length line ≤ 65536) × AllFew lines

few-append : (xs ys : List (List ℕ)) → AllFew xs → AllFew ys → AllFew (xs ++ ys)
few-append [] ys p q = q
few-append (x ∷ xs) ys p q = (p.0, few-append xs ys p.1 q)

-- a text of whole lines, none of them too long where this is so
pub record IsWhole (short : Type 0) (text : List ℕ) : Type 0 where
  pub lines : List (List ℕ)
  pub within : AllWithin lines
  pub few : short → AllFew lines
  pub is : text ≡ whole lines

pub Whole-nil : (short : Type 0) → IsWhole short []
Whole-nil short = record { lines = []; within = tt; few = λ p. tt; is = refl }

pub Whole-append : (short : Type 0) (xs ys : List ℕ) → IsWhole short xs → IsWhole short ys → IsWhole short (xs ++ ys)
Whole-append short xs ys p q = grind (arith, within-append, few-append, whole-append)

-- where more is so
pub Whole-where : (short more : Type 0) (text : List ℕ) → (more → short) → IsWhole short text → IsWhole more text
Whole-where short more text so p = record { lines = p.lines; within = p.within; few = λ s. p.few (so s); is = p.is }

-- from any place of them on, an LF stands within as many bytes
none-short : (at : ℕ) → position_or_len is_line_end (drop at []) ≤ 65536
none-short at = grind (arith, drop_all)

line-short : (line rest : List ℕ) → list_all is_within line ≡ true → length line ≤ 65536 → HasNoLongLine rest
    → (at : ℕ) → position_or_len is_line_end (drop at (line ++ 10 ∷ rest)) ≤ 65536
line-short [] rest within few more zero = let none : position_or_len is_line_end (10 ∷ rest) ≡ 0 = refl in omega (arith, none)
line-short [] rest within few more (suc at) = more at
line-short (x ∷ xs) rest within few more zero = omega (arith, first-is (x ∷ xs) rest within, few)
line-short (x ∷ xs) rest within few more (suc at) = line-short xs rest (and_parts _ _ within).1 (omega (arith, few)) more at

lines-short : (lines : List (List ℕ)) → AllWithin lines → AllFew lines → HasNoLongLine (whole lines)
lines-short [] within few = none-short
lines-short (line ∷ lines) within few = grind (arith, append_assoc, line-short, lines-short lines within.1 few.1)

-- a comparison can hold all lines of such a text
pub Whole-short : (short : Type 0) (text : List ℕ) → IsWhole short text → short → HasNoLongLine text
Whole-short short text p s = subst HasNoLongLine (sym p.is) (lines-short p.lines p.within (p.few s))

-- a line of at most so many bytes before its LF, and what follows it
pub record IsLine (n : ℕ) (text rest : List ℕ) : Type 0 where
  pub line : List ℕ
  pub part : IsPart n line
  pub is : text ≡ line ++ 10 ∷ rest

pub Line-end : (rest : List ℕ) → IsLine 0 (codes "\n" ++ rest) rest
Line-end rest = record { line = []; part = record { within = refl; few = omega arith }; is = refl }

-- a part of the line before it
abbrev pub Line-after : (m n : ℕ) (part text rest : List ℕ) → IsPart m part → IsLine n text rest → IsLine (m + n) (part ++ text) rest
Line-after m n part text rest p q = record {
  line = part ++ q.line;
  part = Part-append m n part q.line p q.part;
  is = ap (λ t. part ++ t) q.is ∙ sym (append_assoc part q.line (10 ∷ rest));
}

pub Whole-line : (short : Type 0) (n : ℕ) (text rest : List ℕ) → (short → n ≤ 65536) → IsLine n text rest → IsWhole short rest
    → IsWhole short text
Whole-line short n text rest few p q = record {
  lines = p.line ∷ q.lines;
  within = (p.part.within, q.within);
  few = λ s. (let size = p.part.few in let least = few s in omega (arith, size, least), q.few s);
  is = p.is ∙ ap (λ t. p.line ++ 10 ∷ t) q.is ∙ sym (append_assoc p.line (10 ∷ []) (whole q.lines));
}
