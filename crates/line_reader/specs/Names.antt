-- How a name is written.
use Rattle.std.specs.Prelude.{ℕ, ◌==◌, ◌||◌, ◌&&◌, nat_lt, Bool, List, length, slice_index}
use Rattle.std.specs.{Char.is_ascii_alphabetic, Char.is_ascii_alphanumeric, List.list_all}

-- a letter or `_`
abbrev pub begins_name : ℕ → Bool
begins_name byte = is_ascii_alphabetic byte || (byte == 95)

-- a letter, a digit or `_`
abbrev pub goes_on_name : ℕ → Bool
goes_on_name byte = is_ascii_alphanumeric byte || (byte == 95)

-- a name of 1 to 32 bytes
abbrev pub is_name : List ℕ → Bool
is_name word =
    nat_lt 0 (length word) && nat_lt (length word) 33 && begins_name (slice_index word 0)
    && list_all goes_on_name word
