-- Lines of plain words with a space between each two.
use Rattle.std.proofs.Common.{◌≡◌, ℕ, ◌+◌, ◌*◌, ◌<◌, ◌≤◌, Bool, true, cond, not, ◌&&◌, nat_lt, ◌==◌, List, [], ◌∷◌, ◌++◌, length, take, refl, ap, ◌∙◌, arith, append_assoc, append-nil, length-append, one-add}
use Rattle.std.proofs.lemmas.{Bool.and_from, Bool.and_parts, List.Folds.list_all-append, List.Sums.AllPass-from_list_all}
use Rattle.std.proofs.lemmas.List.Splits.{slice_split_none, slice_split_at}
use Rattle.std.specs.List.{slice_split, filter, list_all, position_or_len, before_first}
use Rattle.line_reader.specs.{Words.is_line_end, Words.is_allowed, Words.is_blank, Words.words_of, Spelling.IsLine}
use Rattle.line_reader.specs.Listing.{spaced}

-- a byte that is no blank, ends nothing and begins no comment
abbrev pub is_plain : ℕ → Bool
is_plain byte = nat_lt 32 byte && (nat_lt byte 127 && not (byte == 59))

-- a word of at most twelve plain bytes
pub record IsWord (word : List ℕ) : Type 0 where
  pub some : 0 < length word
  pub short : length word ≤ 12
  pub plain : list_all is_plain word ≡ true

abbrev pub AreWords : List (List ℕ) → Type 0
AreWords [] = Unit {0}
AreWords (word ∷ words) = IsWord word × AreWords words

pub AreWords-append : (a b : List (List ℕ)) → AreWords a → AreWords b → AreWords (a ++ b)
AreWords-append [] b h k = k
AreWords-append (word ∷ words) b h k = (h.0, AreWords-append words b h.1 k)

-- ---- bytes of words and of lines

-- a test that each plain byte passes
all_plain : (q : ℕ → Bool) → ((byte : ℕ) → is_plain byte ≡ true → q byte ≡ true) → (bytes : List ℕ) →
    list_all is_plain bytes ≡ true → list_all q bytes ≡ true
all_plain q weaker [] e = refl
all_plain q weaker (byte ∷ bytes) e =
    let parts = and_parts (is_plain byte) (list_all is_plain bytes) e in
    and_from (q byte) (list_all q bytes) (weaker byte parts.0) (all_plain q weaker bytes parts.1)

-- and the space too
all_line : (q : ℕ → Bool) → ((byte : ℕ) → is_plain byte ≡ true → q byte ≡ true) → q 32 ≡ true →
    (word : List ℕ) (words : List (List ℕ)) → IsWord word → AreWords words → list_all q (word ++ spaced words) ≡ true
all_line q weaker space word [] h hs = grind (arith, append-nil, all_plain)
all_line q weaker space word (next ∷ words) h hs = grind (arith, list_all-append, and_from, all_plain, all_line q weaker space next words hs.0 hs.1)

-- ---- the words of a line

before_none : (p : ℕ → Bool) (bytes : List ℕ) → list_all (λ byte. not (p byte)) bytes ≡ true →
    before_first p bytes ≡ bytes
before_none p [] e = refl
before_none p (byte ∷ bytes) e =
    let parts = and_parts (not (p byte)) (list_all (λ b. not (p b)) bytes) e in
    ap (λ b. take (cond b (1 + position_or_len p bytes) 0) (byte ∷ bytes)) parts.0
    ∙ ap (λ n. take n (byte ∷ bytes)) (one-add (position_or_len p bytes))
    ∙ ap (λ rest. byte ∷ rest) (before_none p bytes parts.1)

split_line : (word : List ℕ) (words : List (List ℕ)) → IsWord word → AreWords words →
    slice_split is_blank (word ++ spaced words) ≡ word ∷ words
split_line word [] h hs = grind (arith, append-nil, slice_split_none, AllPass-from_list_all)
split_line word (next ∷ words) h hs = grind (arith, slice_split_at, AllPass-from_list_all, split_line next words hs.0 hs.1)

keeps_words : (words : List (List ℕ)) → AreWords words → filter (λ piece. not (length piece == 0)) words ≡ words
keeps_words [] h = refl
keeps_words (word ∷ words) h = grind (arith, keeps_words words h.1)

-- the words of a line are those that it was joined from
pub words_of-line : (word : List ℕ) (words : List (List ℕ)) → IsWord word → AreWords words →
    words_of (word ++ spaced words) ≡ word ∷ words
words_of-line word words h hs = grind (arith, before_none, all_line, split_line, keeps_words)

-- ---- a line of few words is one

length-spaced : (words : List (List ℕ)) → AreWords words → length (spaced words) ≤ 13 * length words
length-spaced [] h = omega arith
length-spaced (word ∷ words) h = omega (arith, length-append word (spaced words), length-spaced words h.1, h.0.short)

pub is_line : (word : List ℕ) (words : List (List ℕ)) → IsWord word → AreWords words → length words ≤ 8 →
    IsLine (word ++ spaced words)
is_line word words h hs few = grind (arith, all_line, length-append, length-spaced)

-- ---- lines with their ends

abbrev pub ended : List ℕ → List ℕ
ended line = line ++ (10 ∷ [])

-- what is before an end is a line, and what is behind it is as it was
pub lines_of-ended : (line rest : List ℕ) → list_all is_allowed line ≡ true →
    slice_split is_line_end (ended line ++ rest) ≡ line ∷ slice_split is_line_end rest
lines_of-ended line rest e = grind (arith, append_assoc, slice_split_at, AllPass-from_list_all)
