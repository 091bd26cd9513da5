-- Where a reader is in a stream, and what the remaining bytes lead to. Only proofs use this: a reader's contracts pass it on
-- from call to call, and no promise depends on it.
use Rattle.std.specs.Prelude.{◌≡◌, ◌≤◌, ℕ, ◌+◌, ◌-◌, ◌==◌, ◌||◌, ◌⊎◌, nat_lt, if◌then◌else◌, Bool, true, false, List, [], ◌∷◌, ◌++◌, length, drop, Option, Some, None, Result, Ok, Err}
use Rattle.std.specs.{List.slice_split, Str.Parse.AllDigits, Str.Parse.digits_value_after}
use Rattle.thread_machine.specs.declared.choice.Choice.{Choice}
use Rattle.schedule_reader.specs.declared.{run.Run.Run, fault.ScheduleFault.ScheduleFault, place.Place.Place}
use Rattle.schedule_reader.specs.Schedule.{Reading, Faulty, Schedule, is_blank, digits_of, whole, reading_of, reading_of_thread, reading_of_count, faulty, no_runs, schedule_with, schedule_with_piece, open_schedule_of, last_schedule, schedule_in, schedule_of, open_schedule}
use Rattle.schedule_reader.specs.declared.fault.ScheduleFault.TheVariants as fault
use Rattle.schedule_reader.specs.declared.place.Place.TheVariants as place

-- a number with so many digits, or nothing if there are more digits or the number is too large
abbrev pub number_by : ℕ → ℕ → ℕ → ℕ → Option ℕ
number_by count value most_digits most =
    if nat_lt most_digits count || nat_lt most value then None else Some value

-- a thread's number that began at this offset, by its digits and what follows them
abbrev pub thread_by : ℕ → Bool → ℕ → ℕ → List ℕ → Reading
thread_by start expiry count value rest =
    reading_of_thread start expiry count rest (number_by count value 2 63)

-- the same, of the number of times
abbrev pub times_by : ℕ → Choice → ℕ → ℕ → List ℕ → Reading
times_by start choice count value rest =
    reading_of_count start choice count rest (number_by count value 10 1000000000)

-- a token whose rest, in the thread's number, begins at this offset
abbrev pub thread_from : ℕ → Bool → ℕ → ℕ → List ℕ → Reading
thread_from at expiry digits number part =
    let more = digits_of part in
    thread_by (at - digits) expiry (digits + length more) (digits_value_after 10 number more)
    (drop (length more) part)

-- the same, in the number of times
abbrev pub times_from : ℕ → Choice → ℕ → ℕ → List ℕ → Reading
times_from at choice digits number part =
    let more = digits_of part in
    times_by (at - digits) choice (digits + length more) (digits_value_after 10 number more)
    (drop (length more) part)

-- the piece whose rest begins at this offset, by the place before it
abbrev pub piece_from : Place → ℕ → List ℕ → Reading
piece_from place.Between at part = reading_of at part
piece_from (place.Thread expiry digits number) at part = thread_from at expiry digits number part
piece_from (place.Times choice digits number) at part = times_from at choice digits number part

-- that piece if it is complete, and what comes after it
abbrev pub piece_with : Place → ℕ → List ℕ → Schedule → Schedule
piece_with place.Between at part more = schedule_with_piece at part more
piece_with (place.Thread expiry digits number) at part more =
    schedule_with (whole (thread_from at expiry digits number part)) more
piece_with (place.Times choice digits number) at part more =
    schedule_with (whole (times_from at choice digits number part)) more

-- and if it is the last
abbrev pub last_from : Bool → Place → ℕ → List ℕ → Schedule
last_from finished place.Between at part = last_schedule finished at part
last_from true (place.Thread expiry digits number) at part =
    schedule_with (whole (thread_from at expiry digits number part)) no_runs
last_from false (place.Thread expiry digits number) at part =
    open_schedule_of (thread_from at expiry digits number part)
last_from true (place.Times choice digits number) at part =
    schedule_with (whole (times_from at choice digits number part)) no_runs
last_from false (place.Times choice digits number) at part =
    open_schedule_of (times_from at choice digits number part)

-- pieces between single blanks; the first goes on from this place
abbrev pub pieces_from : Bool → Place → ℕ → List (List ℕ) → Schedule
pieces_from finished place at [] = no_runs
pieces_from finished place at (piece ∷ []) = last_from finished place at piece
pieces_from finished place at (piece ∷ next ∷ pieces) =
    piece_with place at piece (schedule_in finished (at + length piece + 1) (next ∷ pieces))

-- what the rest of a stream adds
abbrev pub schedule_from : Bool → Place → ℕ → List ℕ → Schedule
schedule_from finished place at rest = pieces_from finished place at (slice_split is_blank rest)

-- runs before those of a schedule
abbrev pub with_runs : List Run → Schedule → Schedule
with_runs runs schedule = record { runs = runs ++ schedule.runs; fault = schedule.fault }

-- what the rest of the piece leads to after a place or a fault
abbrev pub reading_left : Result Place ScheduleFault → ℕ → List ℕ → Reading
reading_left (Ok place) at part = piece_from place at part
reading_left (Err fault) at part = Faulty fault

-- a token's end: nothing ends between tokens
abbrev pub ended_with : Result (Option Run) ScheduleFault → Schedule → Schedule
ended_with (Ok None) more = more
ended_with (Ok (Some run)) more = schedule_with (Ok run) more
ended_with (Err fault) more = faulty fault

-- within a token
abbrev pub IsInside : Place → Type 0
IsInside place.Between = ⊥
IsInside (place.Thread expiry digits number) = Unit {0}
IsInside (place.Times choice digits number) = Unit {0}

-- numbers that a reader's place can have
abbrev pub IsPlace : ℕ → Place → Type 0
IsPlace at place.Between = Unit {0}
IsPlace at (place.Thread expiry digits number) = (digits ≤ 2) × (number ≤ 63) × (digits ≤ at)
IsPlace at (place.Times choice digits number) =
    (digits ≤ 10) × (number ≤ 1000000000) × (digits ≤ at) × (choice.thread ≤ 63)

-- how many bytes of the present token are spent at least, at most 2
abbrev pub spent : Place → ℕ
spent place.Between = 0
spent (place.Thread expiry digits number) = if digits == 0 then 1 else 2
spent (place.Times choice digits number) = 2

-- the bytes begin with so many bytes: a single turn of this thread, and the space after it
pub record BeginsWithTurn (bytes : List ℕ) (thread count : ℕ) : Type 0 where
  pub digits : List ℕ
  pub counted : count ≡ length digits + 2
  pub some : 1 ≤ length digits
  pub few : length digits ≤ 2
  pub all : AllDigits 10 digits
  pub value : digits_value_after 10 0 digits ≡ thread
  pub small : thread ≤ 63
  pub begins : bytes ≡ (116 ∷ digits) ++ (32 ∷ drop count bytes)
  pub within : count ≤ length bytes

-- a schedule has a fault, or the call is out of memory, or the result is the schedule
abbrev pub IsLeft : {X : Type 0} → Result X ScheduleFault → (X → Schedule) → Schedule → Type 0
IsLeft (Ok x) left schedule = schedule ≡ left x
IsLeft (Err f) left schedule = (f ≡ fault.Memory) ⊎ (schedule ≡ faulty f)

-- runs were appended to a list, the first ones of each of these schedules, and this is left of them
pub record Takes {X I : Type 0} (result : Result X ScheduleFault) (before after : List Run)
    (start : I → Schedule) (left : I → X → Schedule) : Type 0 where
  pub added : List Run
  pub list : after ≡ before ++ added
  pub schedules : (i : I)
      → (rest : Schedule) × ((start i ≡ with_runs added rest) × IsLeft result (left i) rest)

-- a reader: how many bytes it was given, its place, and its fault
pub record Progress : Type 0 where
  pub read : ℕ
  pub place : Place
  pub fault : Option ScheduleFault

-- what the rest of the stream adds
abbrev pub rest_by_fault : Option ScheduleFault → Schedule → Schedule
rest_by_fault None rest = rest
rest_by_fault (Some fault) rest = faulty fault

abbrev pub rest_schedule : Progress → Bool → List ℕ → Schedule
rest_schedule reader finished rest =
    rest_by_fault reader.fault (schedule_from finished reader.place reader.read rest)

-- the reader is after this stream: whatever comes, the runs so far and those of the rest are the whole schedule
pub record HasRead (reader : Progress) (bytes : List ℕ) : Type 0 where
  pub read : reader.read ≡ length bytes
  pub rest : (finished : Bool) (rest : List ℕ)
      → schedule_of finished (bytes ++ rest)
      ≡ with_runs (open_schedule bytes).runs (rest_schedule reader finished rest)
