-- How a line of a trace is read.
use Rattle.std.specs.Prelude.{◌≡◌, ℕ, ◌+◌, ◌-◌, ◌*◌, ◌==◌, ◌&&◌, ◌≤◌, nat_lt, nat_le, not, if◌then◌else◌, Bool, true, false, List, [], ◌∷◌, ◌++◌, length, take, drop, codes, decimal, Option, Some, None}
use Rattle.std.specs.{Char.is_ascii_digit, List.before_first, List.after_first, List.list_all, List.position_or_len}
use Rattle.std.specs.Str.{bytes_eq}
use Rattle.line_reader.specs.Words.{is_line_end}
use Rattle.thread_machine.specs.declared.choice.Choice.{Choice}

-- a space
abbrev pub is_space : ℕ → Bool
is_space byte = byte == 32

-- the number of a choice: one to 13 digits
abbrev pub is_step : List ℕ → Bool
is_step word = nat_lt 0 (length word) && (nat_le (length word) 13 && list_all is_ascii_digit word)

-- a choice of this thread, at most 63, if its digits are digits
abbrev pub choice_by : Bool → Bool → ℕ → Option Choice
choice_by expiry are_digits thread =
    if are_digits && nat_le thread 63 then Some (record { thread = thread; expiry = expiry }) else None

-- a thread's number: one or two digits
abbrev pub choice_of_digits : Bool → List ℕ → Option Choice
choice_of_digits expiry (one ∷ []) = choice_by expiry (is_ascii_digit one) (one - 48)
choice_of_digits expiry (ten ∷ one ∷ []) =
    choice_by expiry (is_ascii_digit ten && is_ascii_digit one) (10 * (ten - 48) + (one - 48))
choice_of_digits expiry _ = None

-- `t` or `x` and a thread's number
abbrev pub choice_named : List ℕ → Option Choice
choice_named [] = None
choice_named (letter ∷ digits) =
    if letter == 116 then choice_of_digits false digits
    else (if letter == 120 then choice_of_digits true digits else None)

-- the choice that a line names: the number of the choice, a space, the name, and a space or the line's end
abbrev pub choice_in : List ℕ → Option Choice
choice_in line =
    if is_step (before_first is_space line) then choice_named (before_first is_space (after_first is_space line)) else None

-- a line whose first word is `state`
abbrev pub is_state_line : List ℕ → Bool
is_state_line line = bytes_eq (before_first is_space line) (codes "state")

-- more bytes than a trace's line has
abbrev pub is_too_long : List ℕ → Bool
is_too_long line = nat_lt 65536 (length line)

-- no line of a text is longer: from any place on, no more bytes precede an LF
abbrev pub HasNoLongLine : List ℕ → Type 0
HasNoLongLine text = (at : ℕ) → position_or_len is_line_end (drop at text) ≤ 65536

-- no digit
abbrev pub is_no_digit : ℕ → Bool
is_no_digit byte = not (is_ascii_digit byte)

-- a text's first line with its LF
abbrev pub first_line : List ℕ → List ℕ
first_line text = take (position_or_len is_line_end text + 1) text

-- the text after it
abbrev pub after_line : List ℕ → List ℕ
after_line text = drop (position_or_len is_line_end text + 1) text

-- the bytes begin with the name of a choice between two spaces, as it follows the number in its line
abbrev pub BeginsWithName : List ℕ → Choice → Type 0
BeginsWithName bytes choice =
    (choice.thread ≤ 63) × ((rest : List ℕ)
    × (bytes ≡ ((if choice.expiry then codes " x" else codes " t") ++ (decimal choice.thread ++ codes " ")) ++ rest))

-- the bytes begin with this number, and the name of a choice follows it
abbrev pub NamesBehind : List ℕ → List ℕ → Choice → Type 0
NamesBehind bytes number choice =
    (take (length number) bytes ≡ number) × BeginsWithName (drop (length number) bytes) choice
