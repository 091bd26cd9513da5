-- The number that a line begins with, by the first byte that is no digit.
use Rattle.std.proofs.Common.{◌≡◌, ◌∙◌, ◌+◌, ◌<◌, ◌≤◌, ℕ, true, List, length, drop, get_or, None, ap, sym, arith, length-take, length-take-le, get_or-take, rules, eqb-true, le-leb, leb-true, lt-ltb, ltb-true}
use Rattle.std.proofs.lemmas.{Bool.and_from, Bool.and_parts, Bool.cases_lt, Bool.not-false, Bool.not_from_true, List.drop_all}
use Rattle.std.proofs.lemmas.List.Sums.{AllPass-from_list_all, fails_before_first, list_all-from_AllPass, passes_at_first, position_or_len_is, prefix_len-le-length}
use Rattle.std.specs.{Char.is_ascii_digit, List.before_first, List.list_all, List.position_or_len}
use Rattle.trace_text.specs.Reading.{is_space, choice_named, choice_in, is_no_digit}

space-no_digit : (b : ℕ) → is_space b ≡ true → is_no_digit b ≡ true
space-no_digit b is = let same : b ≡ 32 = eqb-true b 32 is in ap is_no_digit same

-- where the first word is the number of a choice, it ends where the digits do
digits_end : (line : List ℕ) → list_all is_ascii_digit (before_first is_space line) ≡ true
    → position_or_len is_no_digit line ≡ position_or_len is_space line
digits_end line digits =
    let all = AllPass-from_list_all is_ascii_digit (before_first is_space line) digits in
    let end = position_or_len is_space line in
    let within : end ≤ length line = prefix_len-le-length _ line in
    let size : length (before_first is_space line) ≡ end = length-take-le end line within in
    position_or_len_is is_no_digit line end 0 within
    (λ k before. not_from_true _ (ap is_ascii_digit (sym (get_or-take end line k 0 before)) ∙ all k 0 (omega (arith, size, before))))
    (λ there. space-no_digit _ (passes_at_first is_space line 0 there))

-- what a line names whose digits end in a space
pub named_behind : (line : List ℕ) (end : ℕ) → end ≡ position_or_len is_no_digit line → 0 < end → end ≤ 13 → end < length line
    → get_or line end 0 ≡ 32 → choice_named (before_first is_space (drop (end + 1) line)) ≡ choice_in line
named_behind line end is some few there space = search (rules, position_or_len_is, fails_before_first, and_from, lt-ltb, le-leb, list_all-from_AllPass, length-take, not-false, get_or-take)

-- what one names whose digits aren't the number of a choice, or that ends with them
pub named_none : (line : List ℕ) (end : ℕ) → end ≡ position_or_len is_no_digit line
    → (0 < end → end ≤ 13 → end < length line → get_or line end 0 ≡ 32 → ⊥) → None ≡ choice_in line
named_none line end is never = search (rules, and_parts, digits_end, prefix_len-le-length, ltb-true, leb-true, cases_lt, eqb-true, passes_at_first, drop_all)
