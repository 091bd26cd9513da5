-- The numbers in a plan.
use Rattle.std.specs.Prelude.{ℕ, ◌==◌, ◌&&◌, nat_lt, nat_le, if◌then◌else◌, Bool, List, length, slice_index, Option, Some, None}
use Rattle.std.specs.{Char.is_ascii_digit, List.list_all, Str.Parse.digits_value}

-- at least one digit, and at most so many
abbrev pub are_digits : ℕ → List ℕ → Bool
are_digits most word = nat_lt 0 (length word) && nat_le (length word) most && list_all is_ascii_digit word

-- the number that at most so many digits spell, if it is at most so large
abbrev pub number_in : ℕ → ℕ → List ℕ → Option ℕ
number_in most_digits most word =
    if are_digits most_digits word && nat_le (digits_value 10 word) most then Some (digits_value 10 word) else None

-- a count: 1 to 1,000,000, without a leading zero, which is the byte 48
abbrev pub count_in : List ℕ → Option ℕ
count_in word = if slice_index word 0 == 48 then None else number_in 7 1000000 word

-- a seed: any number of 64 bits
abbrev pub seed_in : List ℕ → Option ℕ
seed_in word = number_in 20 18446744073709551615 word
