-- A byte behind others: its line, and its place there.
use Rattle.std.proofs.Common.{◌≡◌, ◌∙◌, inl, inr, ◌+◌, ℕ, List, [], ◌∷◌, ◌++◌, ◌<◌, length, take, get_or, refl, ap, sym, subst, arith, append_assoc, append-nil, length-append, if◌then◌else◌}
use Rattle.std.proofs.lemmas.List.{take_more, Sums.sum_by-append}
use Rattle.std.specs.List.{count_by}
use Rattle.line_reader.specs.Words.{is_line_end}
use Rattle.vuthgal_c.specs.Places.{IsBehind}

count_more : (xs ys : List ℕ) → count_by is_line_end (xs ++ ys) ≡ count_by is_line_end xs + count_by is_line_end ys
count_more xs ys = sum_by-append (λ x. if is_line_end x then 1 else 0) xs ys

pub none_behind : IsBehind [] 1 1
none_behind = record { lines = []; own = []; all = refl; whole = inl refl; ended = refl; none = refl; begun = refl }

no_end : (byte : ℕ) → (byte ≡ 10 → ⊥) → count_by is_line_end (byte ∷ []) ≡ 0
no_end byte other = grind (arith, other)

-- in the same line
behind_byte : (front : List ℕ) (byte number column : ℕ) → (byte ≡ 10 → ⊥) → IsBehind front number column
    → IsBehind (front ++ byte ∷ []) number (column + 1)
behind_byte front byte number column other before = record {
  lines = before.lines;
  own = before.own ++ byte ∷ [];
  all = ap (λ (f : List ℕ). f ++ byte ∷ []) before.all ∙ append_assoc before.lines before.own (byte ∷ []);
  whole = before.whole;
  ended = before.ended;
  none = count_more before.own (byte ∷ []) ∙ omega (arith, before.none, no_end byte other);
  begun = grind (arith, before.begun, length-append);
}

ended_by : (front : List ℕ) (byte number column : ℕ) → byte ≡ 10 → IsBehind front number column
    → number + 1 ≡ count_by is_line_end (front ++ byte ∷ []) + 1
ended_by front byte number column is before =
    let last : count_by is_line_end (byte ∷ []) ≡ 1 = subst (λ (b : ℕ). count_by is_line_end (b ∷ []) ≡ 1) (sym is) refl in
    let all = count_more front (byte ∷ []) in
    let own = count_more before.lines before.own in
    let front_is = ap (count_by is_line_end) before.all in
    omega (arith, last, all, own, front_is, before.ended, before.none)

-- in the next one
behind_end : (front : List ℕ) (byte number column : ℕ) → byte ≡ 10 → IsBehind front number column
    → IsBehind (front ++ byte ∷ []) (number + 1) 1
behind_end front byte number column is before = record {
  lines = front ++ byte ∷ [];
  own = [];
  all = sym (append-nil (front ++ byte ∷ []));
  whole = inr (front, ap (λ (b : ℕ). front ++ b ∷ []) is);
  ended = ended_by front byte number column is before;
  none = refl;
  begun = refl;
}

-- one byte more of a file
pub next_byte : (file : List ℕ) (i number column : ℕ) → i < length file → (get_or file i 0 ≡ 10 → ⊥) → IsBehind (take i file) number column
    → IsBehind (take (i + 1) file) number (column + 1)
next_byte file i number column there other before =
    subst (λ (f : List ℕ). IsBehind f number (column + 1)) (sym (take_more file i 0 there))
    (behind_byte (take i file) (get_or file i 0) number column other before)

pub next_line : (file : List ℕ) (i number column : ℕ) → i < length file → get_or file i 0 ≡ 10 → IsBehind (take i file) number column
    → IsBehind (take (i + 1) file) (number + 1) 1
next_line file i number column there is before =
    subst (λ (f : List ℕ). IsBehind f (number + 1) 1) (sym (take_more file i 0 there))
    (behind_end (take i file) (get_or file i 0) number column is before)
