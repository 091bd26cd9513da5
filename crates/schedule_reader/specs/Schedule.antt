-- What a schedule's bytes mean. Between blanks there are tokens: `tN` or `tN*K`, turns of thread N, and `xN` or `xN*K`,
-- expiries of its timed wait; K is the count.
use Rattle.std.specs.Prelude.{ℕ, ◌+◌, ◌≤◌, ◌==◌, ◌||◌, ◌&&◌, not, nat_lt, if◌then◌else◌, Bool, true, false, List, [], ◌∷◌, length, drop, replicate, flat_map, take_while, Option, Some, None, Result, Ok, Err}
use Rattle.std.specs.{List.slice_split, Char.is_ascii_digit, Str.Parse.digits_value}
use Rattle.thread_machine.specs.declared.choice.Choice.{Choice}
use Rattle.schedule_reader.specs.declared.{run.Run.Run, fault.ScheduleFault.ScheduleFault}
use Rattle.schedule_reader.specs.declared.fault.ScheduleFault.TheVariants as fault

-- space, tab, CR and LF
abbrev pub is_blank : ℕ → Bool
is_blank byte = (byte == 32) || (byte == 9) || (byte == 13) || (byte == 10)

-- what a piece between blanks is: a token; faulty because of its bytes; or not yet a token, and faulty if it ends here
pub data Reading : Type 0 where
  Token : Run → Reading
  Faulty : ScheduleFault → Reading
  Unfinished : ScheduleFault → Reading

-- a turn of this thread, or the expiry of its timed wait
abbrev pub choice_of : Bool → ℕ → Choice
choice_of expiry thread = record { thread = thread; expiry = expiry }

-- one choice, as often as is said
abbrev pub run_of : Choice → ℕ → Run
run_of choice times = record { choice = choice; times = times }

-- the digits at the start of a part of a token
abbrev pub digits_of : List ℕ → List ℕ
digits_of part = take_while is_ascii_digit part

-- the number that they spell, or nothing if there are more digits or the number is too large
abbrev pub number_within : List ℕ → ℕ → ℕ → Option ℕ
number_within part most_digits most =
    let number = digits_value 10 (digits_of part) in
    if nat_lt most_digits (length (digits_of part)) || nat_lt most number then None else Some number

-- how often, by the digits at this offset: 0 is no such number
abbrev pub reading_of_times : ℕ → Choice → ℕ → Reading
reading_of_times at choice times =
    if times == 0 then Unfinished (fault.Repeat at) else Token (run_of choice times)

-- by the number of digits and what follows them: they are the end of the token
abbrev pub reading_by_times : ℕ → Choice → ℕ → ℕ → List ℕ → Reading
reading_by_times at choice times count (byte ∷ rest) = Faulty (fault.Byte (at + count))
reading_by_times at choice times count [] =
    if count == 0 then Unfinished (fault.Byte at) else reading_of_times at choice times

-- so many digits, of a number or of none
abbrev pub reading_of_count : ℕ → Choice → ℕ → List ℕ → Option ℕ → Reading
reading_of_count at choice count rest None = Faulty (fault.Repeat at)
reading_of_count at choice count rest (Some times) = reading_by_times at choice times count rest

-- the part after the star, at this offset: one to ten digits, 1 to 1,000,000,000
abbrev pub reading_after_star : ℕ → Choice → List ℕ → Reading
reading_after_star at choice part =
    let count = length (digits_of part) in
    reading_of_count at choice count (drop count part) (number_within part 10 1000000000)

-- by the number of the thread's digits and what follows them: nothing, the star, or a byte that isn't allowed there; 42 is the
-- star
abbrev pub reading_by_thread : ℕ → Choice → ℕ → List ℕ → Reading
reading_by_thread at choice count [] =
    if count == 0 then Unfinished (fault.Byte at) else Token (run_of choice 1)
reading_by_thread at choice count (byte ∷ rest) =
    if (byte == 42) && not (count == 0) then reading_after_star (at + count + 1) choice rest
    else Faulty (fault.Byte (at + count))

-- so many digits, of a thread or of none
abbrev pub reading_of_thread : ℕ → Bool → ℕ → List ℕ → Option ℕ → Reading
reading_of_thread at expiry count rest None = Faulty (fault.Number at)
reading_of_thread at expiry count rest (Some thread) =
    reading_by_thread at (choice_of expiry thread) count rest

-- the part after the letter, at this offset: one or two digits, at most 63
abbrev pub reading_after_letter : ℕ → Bool → List ℕ → Reading
reading_after_letter at expiry part =
    let count = length (digits_of part) in
    reading_of_thread at expiry count (drop count part) (number_within part 2 63)

-- a piece, at this offset; 116 is `t`, 120 is `x`
abbrev pub reading_of : ℕ → List ℕ → Reading
reading_of at [] = Unfinished (fault.Byte at)
reading_of at (byte ∷ part) =
    if byte == 116 then reading_after_letter (at + 1) false part
    else (if byte == 120 then reading_after_letter (at + 1) true part else Faulty (fault.Byte at))

-- a piece that is followed by a blank or by the end of a finished stream
abbrev pub whole : Reading → Result Run ScheduleFault
whole (Token run) = Ok run
whole (Faulty fault) = Err fault
whole (Unfinished fault) = Err fault

-- the runs of the whole tokens before the first fault, and that fault
pub record Schedule : Type 0 where
  pub runs : List Run
  pub fault : Option ScheduleFault

-- nothing is chosen, and nothing is wrong
abbrev pub no_runs : Schedule
no_runs = record { runs = []; fault = None }

-- this is wrong
abbrev pub faulty : ScheduleFault → Schedule
faulty fault = record { runs = []; fault = Some fault }

-- a whole piece, and what comes after it
abbrev pub schedule_with : Result Run ScheduleFault → Schedule → Schedule
schedule_with (Ok run) rest = record { runs = run ∷ rest.runs; fault = rest.fault }
schedule_with (Err fault) rest = faulty fault

-- a piece that is whole, at this offset, and what comes after it; an empty piece means nothing
abbrev pub schedule_with_piece : ℕ → List ℕ → Schedule → Schedule
schedule_with_piece at [] rest = rest
schedule_with_piece at (byte ∷ part) rest = schedule_with (whole (reading_of at (byte ∷ part))) rest

-- a piece that more bytes may follow: not yet a token
abbrev pub open_schedule_of : Reading → Schedule
open_schedule_of (Token run) = no_runs
open_schedule_of (Faulty fault) = faulty fault
open_schedule_of (Unfinished fault) = no_runs

-- the last piece, by whether the stream is finished
abbrev pub last_schedule : Bool → ℕ → List ℕ → Schedule
last_schedule true at piece = schedule_with_piece at piece no_runs
last_schedule false at [] = no_runs
last_schedule false at (byte ∷ part) = open_schedule_of (reading_of at (byte ∷ part))

-- pieces between single blanks, the first at this offset
abbrev pub schedule_in : Bool → ℕ → List (List ℕ) → Schedule
schedule_in finished at [] = no_runs
schedule_in finished at (piece ∷ []) = last_schedule finished at piece
schedule_in finished at (piece ∷ next ∷ pieces) =
    schedule_with_piece at piece (schedule_in finished (at + length piece + 1) (next ∷ pieces))

-- the schedule of a stream, by whether it is finished
abbrev pub schedule_of : Bool → List ℕ → Schedule
schedule_of finished bytes = schedule_in finished 0 (slice_split is_blank bytes)

-- the schedule of a stream that more bytes may follow
abbrev pub open_schedule : List ℕ → Schedule
open_schedule bytes = schedule_of false bytes

-- the schedule of a finished stream
abbrev pub finished_schedule : List ℕ → Schedule
finished_schedule bytes = schedule_of true bytes

-- the choices, each as often as its run says
abbrev pub choices_of : List Run → List Choice
choices_of runs = flat_map (λ (run : Run). replicate run.times run.choice) runs

-- a run that a token can spell
pub record IsRun (run : Run) : Type 0 where
  pub thread : run.choice.thread ≤ 63
  pub some : 1 ≤ run.times
  pub few : run.times ≤ 1000000000
