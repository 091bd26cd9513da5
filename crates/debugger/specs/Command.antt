-- Which command a line of the debugger is.
use Rattle.std.specs.Prelude.{ℕ, ◌==◌, ◌&&◌, not, nat_le, if◌then◌else◌, Bool, true, false, List, [], ◌∷◌, length, take, drop, Option, Some, None}
use Rattle.std.specs.{List.position_or_len, List.list_all, List.list_any, Char.is_ascii_digit, Str.Parse.digits_value}
use Rattle.thread_machine.specs.declared.choice.Choice.{Choice}
use Rattle.schedule_reader.specs.{declared.run.Run.Run, Schedule.Schedule, Schedule.is_blank, Schedule.finished_schedule}
use Rattle.debugger.specs.declared.command.Command.{Command}
use Rattle.debugger.specs.declared.command.Command.TheVariants as command

-- what is asked of the debugger
pub data Order : Type 0 where
  Step : Choice → Order
  Go : List Run → Order
  Back : Order
  Break : ℕ → Order
  Clear : ℕ → Order
  Print : Order
  Quit : Order
  Unknown : Order

-- as the code has it
abbrev pub order_of : Command → Order
order_of (command.Step choice) = Step choice
order_of (command.Go runs) = Go runs.items
order_of command.Back = Back
order_of (command.Break row) = Break row
order_of (command.Clear row) = Clear row
order_of command.Print = Print
order_of command.Quit = Quit
order_of command.Unknown = Unknown

abbrev pub is_letter : ℕ → Bool
is_letter byte = not (is_blank byte)

-- from the first word on
abbrev pub from_word : List ℕ → List ℕ
from_word line = drop (position_or_len is_letter line) line

-- the first word
abbrev pub word_of : List ℕ → List ℕ
word_of line = take (position_or_len is_blank (from_word line)) (from_word line)

-- what follows it
abbrev pub rest_of : List ℕ → List ℕ
rest_of line = drop (position_or_len is_blank (from_word line)) (from_word line)

-- the one letter of a word
abbrev pub letter_of : List ℕ → ℕ
letter_of (byte ∷ []) = byte
letter_of _ = 0

-- the runs of some tokens, if they are all faultless
abbrev pub runs_of : Schedule → Option (List Run)
runs_of schedule = elim schedule.fault [ None ↦ Some schedule.runs | Some fault ↦ None ]

abbrev pub runs_in : List ℕ → Option (List Run)
runs_in rest = runs_of (finished_schedule rest)

-- `g` and these tokens
abbrev pub go_by : Option (List Run) → Order
go_by None = Unknown
go_by (Some runs) = Go runs

-- `s` and these tokens: one, and without a star
abbrev pub step_by : Option (List Run) → List ℕ → Order
step_by (Some (run ∷ [])) rest = if list_any (λ byte. byte == 42) rest then Unknown else Step run.choice
step_by _ rest = Unknown

-- a command that has no words after it
abbrev pub alone : Order → List ℕ → Order
alone made rest = if list_all is_blank rest then made else Unknown

-- a row's number: one word, of one to five digits
abbrev pub is_row : List ℕ → Bool
is_row word = not (length word == 0) && nat_le (length word) 5 && list_all is_ascii_digit word

abbrev pub row_in : List ℕ → Option ℕ
row_in rest =
    if is_row (word_of rest) && list_all is_blank (rest_of rest) then Some (digits_value 10 (word_of rest)) else None

abbrev pub by_row : (ℕ → Order) → Option ℕ → Order
by_row made None = Unknown
by_row made (Some row) = made row

-- 98 b, 99 c, 103 g, 107 k, 112 p, 113 q, 115 s
abbrev pub order_by : ℕ → List ℕ → Order
order_by letter rest =
    if letter == 115 then step_by (runs_in rest) rest
    else (if letter == 103 then go_by (runs_in rest)
    else (if letter == 107 then by_row Break (row_in rest)
    else (if letter == 99 then by_row Clear (row_in rest)
    else (if letter == 98 then alone Back rest
    else (if letter == 112 then alone Print rest
    else (if letter == 113 then alone Quit rest else Unknown))))))

abbrev pub line_order : List ℕ → Order
line_order line = order_by (letter_of (word_of line)) (rest_of line)

-- a line of `g`
abbrev pub is_go : List ℕ → Bool
is_go line = letter_of (word_of line) == 103

-- `g` with two runs or more: they are read into a list
abbrev pub has_list : Order → Bool
has_list (Go (run ∷ next ∷ runs)) = true
has_list _ = false

-- only `q` ends the session
abbrev pub goes_on : Order → Bool
goes_on Quit = false
goes_on _ = true
