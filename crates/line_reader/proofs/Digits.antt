-- Decimal digits and the number that they spell.
use Rattle.std.proofs.lemmas.{List.get_or_default, Bool.Decides.nat_tests, Str.Parse.digits_value-take-le}
use Rattle.std.proofs.Common.{suc, ◌≡◌, ◌+◌, ◌-◌, ◌*◌, ◌^◌, ◌<◌, ◌≤◌, ℕ, true, List, [], ◌∷◌, length, take, get_or, arith}
use Rattle.std.proofs.{lemmas.Int.Digits.digits_value-lt, lemmas.Int.Digits.digits_value_more, Math.Nat.pow-le-pow_right}
use Rattle.std.specs.{List.AllPass, Char.is_ascii_digit, Char.digit_value, Str.Parse.AllDigits, Str.Parse.digits_value}

-- a digit's value is below 10
pub digit_value-lt : (c : ℕ) → is_ascii_digit c ≡ true → digit_value c < 10
digit_value-lt c h = grind (arith, nat_tests)

pub digit_value-digit : (c : ℕ) → is_ascii_digit c ≡ true → digit_value c + 48 ≡ c
digit_value-digit c h = grind (arith, nat_tests)

pub AllDigits-from_AllPass : (cs : List ℕ) → AllPass is_ascii_digit cs → AllDigits 10 cs
AllDigits-from_AllPass [] all = tt
AllDigits-from_AllPass (c ∷ cs) all = (
  digit_value-lt c (all 0 c (omega arith)),
  AllDigits-from_AllPass cs (λ k d there. all (suc k) d (omega arith)),
)

-- ten digits spell a number below 10 ^ 10
pub digits_value-few : (cs : List ℕ) → AllPass is_ascii_digit cs → length cs ≤ 10 → digits_value 10 cs < 10000000000
digits_value-few cs all few =
    let below = digits_value-lt 10 cs (AllDigits-from_AllPass cs all) in
    let most : 10 ^ length cs ≤ 10 ^ 10 = pow-le-pow_right (omega arith) few in
    omega (arith, below, most)

-- one digit more
pub digits_value-next : (cs : List ℕ) (i d : ℕ) → AllPass is_ascii_digit cs → i < length cs
    → digits_value 10 (take (i + 1) cs) ≡ digits_value 10 (take i cs) * 10 + (get_or cs i d - 48)
digits_value-next cs i d all there = grind (arith, get_or_default, digit_value-digit, digits_value_more)

-- stays below 10 ^ 10
pub digits_value-next_few : (cs : List ℕ) (i d : ℕ) → AllPass is_ascii_digit cs → length cs ≤ 10 → i < length cs
    → digits_value 10 (take i cs) * 10 + (get_or cs i d - 48) < 10000000000
digits_value-next_few cs i d all few there = grind (arith, digits_value-next, digits_value-take-le, digits_value-few)
