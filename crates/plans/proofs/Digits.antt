-- Up to twenty digits and the number that they spell.
use Rattle.std.proofs.Common.{◌+◌, ◌-◌, ◌*◌, ◌<◌, ◌≤◌, ℕ, List, length, take, get_or, arith}
use Rattle.std.proofs.{lemmas.Int.Digits.digits_value-lt, lemmas.Str.Parse.digits_value-take-le, Math.Nat.pow-le-pow_right}
use Rattle.std.specs.{List.AllPass, Char.is_ascii_digit, Str.Parse.digits_value}
use Rattle.line_reader.proofs.Digits.{AllDigits-from_AllPass, digits_value-next}

-- twenty digits spell a number below 10 ^ 20
pub digits_value-few : (cs : List ℕ) → AllPass is_ascii_digit cs → length cs ≤ 20 → digits_value 10 cs < 100000000000000000000
digits_value-few cs all few = grind (arith, digits_value-lt, AllDigits-from_AllPass, pow-le-pow_right)

-- and stay below it
pub digits_value-next_few : (cs : List ℕ) (i d : ℕ) → AllPass is_ascii_digit cs → length cs ≤ 20 → i < length cs
    → digits_value 10 (take i cs) * 10 + (get_or cs i d - 48) < 100000000000000000000
digits_value-next_few cs i d all few there = grind (arith, digits_value-next, digits_value-take-le, digits_value-few)
