-- How a number is written: digits, perhaps with a minus sign before them.
use Rattle.std.specs.Prelude.{ℕ, ◌==◌, ◌&&◌, not, if◌then◌else◌, Bool, false, ℤ, pos, neg_ℤ, List, [], ◌∷◌, length}
use Rattle.std.specs.{Char.is_ascii_digit, List.list_all, Str.Parse.digits_value}

-- whether a word begins with a minus sign
abbrev pub is_negative : List ℕ → Bool
is_negative [] = false
is_negative (byte ∷ bytes) = byte == 45

-- what follows the minus sign, or the whole word if there is none
abbrev pub digits_in : List ℕ → List ℕ
digits_in [] = []
digits_in (byte ∷ bytes) = if byte == 45 then bytes else byte ∷ bytes

-- one digit or more, and a minus sign before them or none
abbrev pub is_number : List ℕ → Bool
is_number word = not (length (digits_in word) == 0) && list_all is_ascii_digit (digits_in word)

-- the number that is spelled so
abbrev pub value_in : List ℕ → ℤ
value_in word =
    if is_negative word then neg_ℤ (pos (digits_value 10 (digits_in word)))
    else pos (digits_value 10 (digits_in word))
