-- A stream's bytes one by one, and the runs that they add.
use Rattle.std.proofs.Common.{◌≡◌, ◌∙◌, ◌⊎◌, inl, inr, ◌+◌, ◌<◌, ◌≤◌, if◌then◌else◌, ℕ, Bool, true, false, List, [], ◌∷◌, ◌++◌, length, drop, refl, ap, sym, subst, arith, append_assoc, length-append, rules, Some, None, Result, Ok, Err, IfOk, append-nil}
use Rattle.std.proofs.lemmas.List.{drop_all, Splits.slice_split-cons_yes, Splits.slice_split-cons_no, Splits.length-slice_split}
use Rattle.std.specs.List.{slice_split, onto_first}
use Rattle.schedule_reader.specs.declared.{run.Run.Run, fault.ScheduleFault.ScheduleFault, place.Place.Place}
use Rattle.schedule_reader.specs.Schedule.{Reading, Token, Unfinished, Schedule, is_blank, whole, faulty, no_runs, schedule_with, open_schedule_of, schedule_in, schedule_of, open_schedule, finished_schedule}
use Rattle.schedule_reader.specs.Places.{piece_from, piece_with, last_from, pieces_from, schedule_from, with_runs, reading_left, IsInside, IsPlace, IsLeft, Takes, Progress, rest_by_fault, rest_schedule, HasRead}
use Rattle.schedule_reader.specs.Reading.{Adds, answer_of}
use Rattle.schedule_reader.specs.declared.fault.ScheduleFault.TheVariants as fault
use Rattle.schedule_reader.specs.declared.place.Place.TheVariants as place
use Rattle.schedule_reader.proofs.Numbers.{thread-end, times-end}

-- the last piece, by its reading
abbrev last_by : Bool → Reading → Schedule
last_by true reading = schedule_with (whole reading) no_runs
last_by false reading = open_schedule_of reading

-- a piece with a byte more is not empty
piece_with-cons : (p : Place) (at b : ℕ) (part : List ℕ) (more : Schedule)
    → piece_with p at (b ∷ part) more ≡ schedule_with (whole (piece_from p at (b ∷ part))) more
piece_with-cons p at b part more = grind arith

last_from-cons : (finished : Bool) (p : Place) (at b : ℕ) (part : List ℕ)
    → last_from finished p at (b ∷ part) ≡ last_by finished (piece_from p at (b ∷ part))
last_from-cons true place.Between at b part = refl
last_from-cons false place.Between at b part = refl
last_from-cons true (place.Thread expiry digits number) at b part = refl
last_from-cons false (place.Thread expiry digits number) at b part = refl
last_from-cons true (place.Times choice digits number) at b part = refl
last_from-cons false (place.Times choice digits number) at b part = refl

-- a byte that is no blank goes to the first piece
plain-pieces : (finished : Bool) (p q : Place) (at b : ℕ) (pieces : List (List ℕ)) → IsInside q
    → ((part : List ℕ) → piece_from p at (b ∷ part) ≡ piece_from q (at + 1) part) → 0 < length pieces
    → pieces_from finished p at (onto_first b pieces) ≡ pieces_from finished q (at + 1) pieces
plain-pieces finished p q at b pieces inside same some = grind (arith, last_from-cons, piece_with-cons)

-- what a byte that is no blank leaves
pub plain : (finished : Bool) (p : Place) (at b : ℕ) (rest : List ℕ) (result : Result Place ScheduleFault) → is_blank b ≡ false
    → ((part : List ℕ) → piece_from p at (b ∷ part) ≡ reading_left result (at + 1) part) → IfOk result (λ q. IsInside q)
    → IsLeft result (λ q. schedule_from finished q (at + 1) rest) (schedule_from finished p at (b ∷ rest))
plain finished p at b rest result no_blank same inside = grind (arith, slice_split-cons_no, plain-pieces, length-slice_split, last_from-cons, piece_with-cons)

-- pieces between tokens are those of the definition
pub between-pieces : (finished : Bool) (at : ℕ) (pieces : List (List ℕ)) → pieces_from finished place.Between at pieces ≡ schedule_in finished at pieces
between-pieces finished at pieces = grind arith

blank-pieces : (finished : Bool) (p : Place) (at : ℕ) (pieces : List (List ℕ)) → 0 < length pieces
    → pieces_from finished p at ([] ∷ pieces) ≡ piece_with p at [] (pieces_from finished place.Between (at + 1) pieces)
blank-pieces finished p at pieces some = grind (arith, between-pieces)

-- a blank ends the piece
pub blank : (finished : Bool) (p : Place) (at b : ℕ) (rest : List ℕ) → is_blank b ≡ true
    → schedule_from finished p at (b ∷ rest) ≡ piece_with p at [] (schedule_from finished place.Between (at + 1) rest)
blank finished p at b rest is = grind (arith, slice_split-cons_yes, blank-pieces, length-slice_split)

-- the whole stream
pub start : (finished : Bool) (bytes : List ℕ) → schedule_of finished bytes ≡ schedule_from finished place.Between 0 bytes
start finished bytes = sym (between-pieces finished 0 (slice_split is_blank bytes))

-- an open stream that ends here has nothing more
open-thread : (start : ℕ) (run : Run) (none : Bool) → open_schedule_of (if none then Unfinished (fault.Byte start) else Token run) ≡ no_runs
open-thread start run true = refl
open-thread start run false = refl

open-times : (start : ℕ) (run : Run) (none zero : Bool)
    → open_schedule_of (if none then Unfinished (fault.Byte start) else (if zero then Unfinished (fault.Repeat start) else Token run)) ≡ no_runs
open-times start run true zero = refl
open-times start run false _ = grind arith

pub open-end : (p : Place) (at : ℕ) → IsPlace at p → schedule_from false p at [] ≡ no_runs
open-end p at is = grind (arith, thread-end, open-thread, times-end, open-times)

-- a finished one has its last token
pub finished-end : (p : Place) (at : ℕ) → schedule_from true p at [] ≡ piece_with p at [] no_runs
finished-end p at = grind arith

-- runs before runs
pub with_runs-append : (first second : List Run) (schedule : Schedule)
    → with_runs first (with_runs second schedule) ≡ with_runs (first ++ second) schedule
with_runs-append first second schedule = grind (arith, append_assoc)

-- nothing was added
pub takes-plain : {X I : Type 0} (result : Result X ScheduleFault) (runs : List Run) (from : I → Schedule) (left : I → X → Schedule)
    → ((i : I) → IsLeft result (left i) (from i)) → Takes result runs runs from left
takes-plain result runs from left is = record {
  added = [];
  list = sym (append-nil runs);
  schedules = λ i. (from i, (refl, is i));
}

-- a byte that is no blank
pub takes-byte : (p : Place) (at b : ℕ) (runs : List Run) (result : Result Place ScheduleFault) → is_blank b ≡ false
    → ((part : List ℕ) → piece_from p at (b ∷ part) ≡ reading_left result (at + 1) part) → IfOk result (λ q. IsInside q)
    → Takes result runs runs (λ (stream : Bool × List ℕ). schedule_from stream.0 p at (b ∷ stream.1))
    (λ stream next. schedule_from stream.0 next (at + 1) stream.1)
takes-byte p at b runs result no_blank same inside = search (rules, takes-plain, plain)

-- a blank
pub takes-blank : (p : Place) (at b : ℕ) (before after : List Run) → is_blank b ≡ true
    → Takes (Ok tt) before after (λ (more : Schedule). piece_with p at [] more) (λ more (none : Unit {0}). more)
    → Takes (Ok place.Between) before after (λ (stream : Bool × List ℕ). schedule_from stream.0 p at (b ∷ stream.1))
    (λ stream next. schedule_from stream.0 next (at + 1) stream.1)
takes-blank p at b before after is ended = record {
  added = ended.added;
  list = ended.list;
  schedules = λ (stream : Bool × List ℕ). let t = ended.schedules (schedule_from stream.0 place.Between (at + 1) stream.1) in
      (t.0, (blank stream.0 p at b stream.1 is ∙ t.1.0, t.1.1));
}

pub takes-blank_fault : (p : Place) (at b : ℕ) (before after : List Run) (f : ScheduleFault) → is_blank b ≡ true
    → Takes (Err f) before after (λ (more : Schedule). piece_with p at [] more) (λ more (none : Unit {0}). more)
    → Takes (Err f) before after (λ (stream : Bool × List ℕ). schedule_from stream.0 p at (b ∷ stream.1))
    (λ stream (next : Place). schedule_from stream.0 next (at + 1) stream.1)
takes-blank_fault p at b before after f is ended = record {
  added = ended.added;
  list = ended.list;
  schedules = λ (stream : Bool × List ℕ). let t = ended.schedules (schedule_from stream.0 place.Between (at + 1) stream.1) in
      (t.0, (blank stream.0 p at b stream.1 is ∙ t.1.0, t.1.1));
}

-- memory was wanting
pub takes-memory : {X I : Type 0} (before after : List Run) (from : I → Schedule) (left : I → X → Schedule) → after ≡ before
    → Takes (Err fault.Memory) before after from left
takes-memory before after from left same = record {
  added = [];
  list = same ∙ sym (append-nil before);
  schedules = λ i. (from i, (refl, inl refl));
}

-- the answer without the place
abbrev pub answered : Result Place ScheduleFault → Result (Unit {0}) ScheduleFault
answered (Ok next) = Ok tt
answered (Err f) = Err f

-- what an open stream's end leaves
end-left : (result : Result Place ScheduleFault) (at : ℕ) (rest : Schedule) → IfOk result (λ next. IsPlace at next)
    → IsLeft result (λ next. schedule_from false next at []) rest → IsLeft (answered result) (λ (none : Unit {0}). no_runs) rest
end-left result at rest place left = grind (arith, open-end)

err_memory : (f : ScheduleFault) → f ≡ fault.Memory → ◌≡◌ {A = Result (Unit {0}) ScheduleFault} (Err f) (Err fault.Memory)
err_memory f is = ap Err is

-- the runs that were added to a schedule
pub adds-by : (shorter longer : Schedule) (result : Result (Unit {0}) ScheduleFault) (before after added : List Run) (rest : Schedule)
    → after ≡ before ++ added → longer ≡ with_runs (shorter.runs ++ added) rest → IsLeft result (λ none. no_runs) rest
    → Adds result shorter longer before after
adds-by shorter longer result before after added rest list is left = grind (arith, append_assoc, err_memory)

-- and its answer
pub answers-by : (longer : Schedule) (result : Result (Unit {0}) ScheduleFault) (runs : List Run) (rest : Schedule)
    → longer ≡ with_runs runs rest → IsLeft result (λ none. no_runs) rest
    → (result ≡ Err fault.Memory) ⊎ (result ≡ answer_of longer)
answers-by longer result runs rest is left = grind (arith, err_memory)

-- what a reader of a stream told, and what is left, after a piece more
told : {X : Type 0} (old : Progress) (bytes piece : List ℕ) (result : Result X ScheduleFault) (before after : List Run)
    (from : Bool × List ℕ → Schedule) (left : Bool × List ℕ → X → Schedule) → HasRead old bytes
    → ((finished : Bool) (rest : List ℕ) → rest_schedule old finished (piece ++ rest) ≡ from (finished, rest))
    → (takes : Takes result before after from left) (finished : Bool) (rest : List ℕ)
    → schedule_of finished ((bytes ++ piece) ++ rest)
    ≡ with_runs ((open_schedule bytes).runs ++ takes.added) (takes.schedules (finished, rest)).0
told old bytes piece result before after from left has same takes finished rest = grind (arith, append_assoc, with_runs-append)

told-open : {X : Type 0} (old : Progress) (bytes piece : List ℕ) (result : Result X ScheduleFault) (before after : List Run)
    (from : Bool × List ℕ → Schedule) (left : Bool × List ℕ → X → Schedule) → HasRead old bytes
    → ((finished : Bool) (rest : List ℕ) → rest_schedule old finished (piece ++ rest) ≡ from (finished, rest))
    → (takes : Takes result before after from left)
    → open_schedule (bytes ++ piece)
    ≡ with_runs ((open_schedule bytes).runs ++ takes.added) (takes.schedules (false, [])).0
told-open old bytes piece result before after from left has same takes =
    ap open_schedule (sym (append-nil (bytes ++ piece))) ∙ told old bytes piece result before after from left has same takes false []

-- the piece is at its end
pub takes-end : (p next : Place) (at offset i : ℕ) (piece : List ℕ) (before after : List Run) → length piece ≤ i → i ≤ length piece → offset ≡ at + i
    → Takes (Ok next) before after (λ (stream : Bool × List ℕ). schedule_from stream.0 p at (piece ++ stream.1))
    (λ stream q. schedule_from stream.0 q offset (drop i piece ++ stream.1))
    → Takes (Ok next) before after (λ (stream : Bool × List ℕ). schedule_from stream.0 p at (piece ++ stream.1))
    (λ stream q. schedule_from stream.0 q (at + length piece) stream.1)
takes-end p next at offset i piece before after all within is takes =
    let end : offset ≡ at + length piece = omega (arith, is) in
    record {
      added = takes.added;
      list = takes.list;
      schedules = λ (stream : Bool × List ℕ). let t = takes.schedules stream in (
        t.0,
        (
          t.1.0,
          t.1.1 ∙ ap (λ bs. schedule_from stream.0 next offset (bs ++ stream.1)) (drop_all i piece all)
              ∙ ap (λ n. schedule_from stream.0 next n stream.1) end,
        ),
      );
    }

-- what a reader's piece gives: the runs, the answer, and the reader after it
no_fault : (old : Progress) (piece : List ℕ) (finished : Bool) (rest : List ℕ) → old.fault ≡ None
    → rest_schedule old finished (piece ++ rest) ≡ schedule_from finished old.place old.read (piece ++ rest)
no_fault old piece finished rest none = ap (λ f. rest_by_fault f (schedule_from finished old.place old.read (piece ++ rest))) none

pub fed-runs : {old : Progress} {bytes : List ℕ} (piece : List ℕ) {result : Result Place ScheduleFault} {before after : List Run} → HasRead old bytes → old.fault ≡ None
    → IfOk result (λ next. IsPlace (old.read + length piece) next)
    → Takes result before after (λ (stream : Bool × List ℕ). schedule_from stream.0 old.place old.read (piece ++ stream.1))
    (λ stream next. schedule_from stream.0 next (old.read + length piece) stream.1)
    → Adds (answered result) (open_schedule bytes) (open_schedule (bytes ++ piece)) before after
fed-runs {old} {bytes} piece {result} {before} {after} has none place takes =
    let t = takes.schedules (false, []) in
    adds-by (open_schedule bytes) (open_schedule (bytes ++ piece)) (answered result) before after takes.added t.0 takes.list
    (told-open old bytes piece result before after _ _ has (λ finished rest. no_fault old piece finished rest none) takes)
    (end-left result (old.read + length piece) t.0 place t.1.1)

pub fed-answer : {old : Progress} {bytes : List ℕ} (piece : List ℕ) {result : Result Place ScheduleFault} {before after : List Run} → HasRead old bytes → old.fault ≡ None
    → IfOk result (λ next. IsPlace (old.read + length piece) next)
    → Takes result before after (λ (stream : Bool × List ℕ). schedule_from stream.0 old.place old.read (piece ++ stream.1))
    (λ stream next. schedule_from stream.0 next (old.read + length piece) stream.1)
    → (answered result ≡ Err fault.Memory) ⊎ (answered result ≡ answer_of (open_schedule (bytes ++ piece)))
fed-answer {old} {bytes} piece {result} {before} {after} has none place takes =
    let t = takes.schedules (false, []) in
    answers-by (open_schedule (bytes ++ piece)) (answered result) ((open_schedule bytes).runs ++ takes.added) t.0
    (told-open old bytes piece result before after _ _ has (λ finished rest. no_fault old piece finished rest none) takes)
    (end-left result (old.read + length piece) t.0 place t.1.1)

-- the place after a piece, or the fault
abbrev pub progress_after : Progress → ℕ → Result Place ScheduleFault → Progress
progress_after old n (Ok next) = record { read = old.read + n; place = next; fault = None }
progress_after old n (Err f) = record { read = old.read + n; place = old.place; fault = Some f }

-- nothing is left of it but what is left of the stream
left-rest : (old : Progress) (piece : List ℕ) (result : Result Place ScheduleFault) (finished : Bool) (rest : List ℕ) (left : Schedule)
    → (answered result ≡ Err fault.Memory → ⊥)
    → IsLeft result (λ next. schedule_from finished next (old.read + length piece) rest) left
    → left ≡ rest_schedule (progress_after old (length piece) result) finished rest
left-rest old piece result finished rest left no_memory is = grind (arith, err_memory)

open-rest : (old : Progress) (piece : List ℕ) (result : Result Place ScheduleFault) (left : Schedule)
    → (answered result ≡ Err fault.Memory → ⊥) → IfOk result (λ next. IsPlace (old.read + length piece) next)
    → IsLeft result (λ next. schedule_from false next (old.read + length piece) []) left → left.runs ≡ []
open-rest old piece result left no_memory place is = grind (arith, open-end, err_memory)

read-after : (old : Progress) (bytes piece : List ℕ) (result : Result Place ScheduleFault) → old.read ≡ length bytes
    → (progress_after old (length piece) result).read ≡ length (bytes ++ piece)
read-after old bytes piece result read = grind (arith, length-append)

has-after : (old : Progress) (bytes piece : List ℕ) (result : Result Place ScheduleFault) (before after : List Run) → HasRead old bytes → old.fault ≡ None
    → IfOk result (λ next. IsPlace (old.read + length piece) next)
    → Takes result before after (λ (stream : Bool × List ℕ). schedule_from stream.0 old.place old.read (piece ++ stream.1))
    (λ stream next. schedule_from stream.0 next (old.read + length piece) stream.1)
    → (answered result ≡ Err fault.Memory → ⊥)
    → HasRead (progress_after old (length piece) result) (bytes ++ piece)
has-after old bytes piece result before after has none place takes no_memory =
    let same : (finished : Bool) (rest : List ℕ) → rest_schedule old finished (piece ++ rest) ≡ schedule_from finished old.place old.read (piece ++ rest)
    = λ finished rest. no_fault old piece finished rest none in
    let given = (open_schedule bytes).runs ++ takes.added in
    let t0 = takes.schedules (false, []) in
    let runs : (open_schedule (bytes ++ piece)).runs ≡ given
    = ap (λ (s : Schedule). s.runs) (told-open old bytes piece result before after _ _ has same takes)
    ∙ ap (λ rs. given ++ rs) (open-rest old piece result t0.0 no_memory place t0.1.1) ∙ append-nil given in
    record {
      read = read-after old bytes piece result has.read;
      rest = λ finished rest. let t = takes.schedules (finished, rest) in
          told old bytes piece result before after _ _ has same takes finished rest
          ∙ ap (with_runs given) (left-rest old piece result finished rest t.0 no_memory t.1.1)
          ∙ ap (λ rs. with_runs rs (rest_schedule (progress_after old (length piece) result) finished rest)) (sym runs);
    }

pub fed-stream : {old : Progress} {bytes : List ℕ} (piece : List ℕ) (result : Result Place ScheduleFault) {before after : List Run} → HasRead old bytes → old.fault ≡ None
    → IfOk result (λ next. IsPlace (old.read + length piece) next)
    → Takes result before after (λ (stream : Bool × List ℕ). schedule_from stream.0 old.place old.read (piece ++ stream.1))
    (λ stream next. schedule_from stream.0 next (old.read + length piece) stream.1)
    → (answered result ≡ Err fault.Memory) ⊎ HasRead (progress_after old (length piece) result) (bytes ++ piece)
fed-stream {old} {bytes} piece (Ok next) {before} {after} has none place takes =
    inr (has-after old bytes piece (Ok next) before after has none place takes (λ e. absurd (cc)))
fed-stream {old} {bytes} piece (Err fault.Memory) {before} {after} has none place takes = inl refl
fed-stream {old} {bytes} piece (Err (fault.Byte n)) {before} {after} has none place takes =
    inr (has-after old bytes piece (Err (fault.Byte n)) before after has none place takes (λ e. absurd (cc)))
fed-stream {old} {bytes} piece (Err (fault.Number n)) {before} {after} has none place takes =
    inr (has-after old bytes piece (Err (fault.Number n)) before after has none place takes (λ e. absurd (cc)))
fed-stream {old} {bytes} piece (Err (fault.Repeat n)) {before} {after} has none place takes =
    inr (has-after old bytes piece (Err (fault.Repeat n)) before after has none place takes (λ e. absurd (cc)))

-- a fault stays
fault_open : (old : Progress) (bytes piece : List ℕ) (f : ScheduleFault) → HasRead old bytes → old.fault ≡ Some f
    → open_schedule (bytes ++ piece) ≡ with_runs (open_schedule bytes).runs (faulty f)
fault_open old bytes piece f has is = grind arith

same_runs : (runs : List Run) (schedule : Schedule) → with_runs runs schedule ≡ with_runs (runs ++ []) schedule
same_runs runs schedule = ap (λ rs. with_runs rs schedule) (sym (append-nil runs))

pub stays-runs : {old : Progress} {bytes : List ℕ} (piece : List ℕ) {f : ScheduleFault} {runs : List Run} → HasRead old bytes → old.fault ≡ Some f
    → Adds (Err f) (open_schedule bytes) (open_schedule (bytes ++ piece)) runs runs
stays-runs {old} {bytes} piece {f} {runs} has is =
    adds-by (open_schedule bytes) (open_schedule (bytes ++ piece)) (Err f) runs runs [] (faulty f) (sym (append-nil runs))
    (fault_open old bytes piece f has is ∙ same_runs (open_schedule bytes).runs (faulty f)) (inr refl)

-- the end of a finished stream
ended : (old : Progress) (bytes : List ℕ) (result : Result (Unit {0}) ScheduleFault) (before after : List Run) → HasRead old bytes → old.fault ≡ None
    → (takes : Takes result before after (λ (more : Schedule). piece_with old.place old.read [] more) (λ more (none : Unit {0}). more))
    → finished_schedule bytes ≡ with_runs ((open_schedule bytes).runs ++ takes.added) (takes.schedules no_runs).0
ended old bytes result before after has none takes =
    let given = (open_schedule bytes).runs in
    let t = takes.schedules no_runs in
    ap finished_schedule (sym (append-nil bytes)) ∙ has.rest true []
    ∙ ap (with_runs given) (ap (λ f. rest_by_fault f (schedule_from true old.place old.read [])) none ∙ finished-end old.place old.read ∙ t.1.0)
    ∙ with_runs-append given takes.added t.0

pub ended-runs : {old : Progress} {bytes : List ℕ} {result : Result (Unit {0}) ScheduleFault} {before after : List Run} → HasRead old bytes → old.fault ≡ None
    → Takes result before after (λ (more : Schedule). piece_with old.place old.read [] more) (λ more (none : Unit {0}). more)
    → Adds result (open_schedule bytes) (finished_schedule bytes) before after
ended-runs {old} {bytes} {result} {before} {after} has none takes =
    let t = takes.schedules no_runs in
    adds-by (open_schedule bytes) (finished_schedule bytes) result before after takes.added t.0 takes.list (ended old bytes result before after has none takes) t.1.1

pub ended-answer : {old : Progress} {bytes : List ℕ} {result : Result (Unit {0}) ScheduleFault} {before after : List Run} → HasRead old bytes → old.fault ≡ None
    → Takes result before after (λ (more : Schedule). piece_with old.place old.read [] more) (λ more (none : Unit {0}). more)
    → (result ≡ Err fault.Memory) ⊎ (result ≡ answer_of (finished_schedule bytes))
ended-answer {old} {bytes} {result} {before} {after} has none takes =
    let t = takes.schedules no_runs in
    answers-by (finished_schedule bytes) result ((open_schedule bytes).runs ++ takes.added) t.0 (ended old bytes result before after has none takes) t.1.1

-- a fault stays at the end
fault_ended : (old : Progress) (bytes : List ℕ) (f : ScheduleFault) → HasRead old bytes → old.fault ≡ Some f
    → finished_schedule bytes ≡ with_runs (open_schedule bytes).runs (faulty f)
fault_ended old bytes f has is =
    ap finished_schedule (sym (append-nil bytes)) ∙ has.rest true []
    ∙ ap (λ g. with_runs (open_schedule bytes).runs (rest_by_fault g (schedule_from true old.place old.read []))) is

pub ended-stays-runs : {old : Progress} {bytes : List ℕ} {f : ScheduleFault} {runs : List Run} → HasRead old bytes → old.fault ≡ Some f
    → Adds (Err f) (open_schedule bytes) (finished_schedule bytes) runs runs
ended-stays-runs {old} {bytes} {f} {runs} has is =
    adds-by (open_schedule bytes) (finished_schedule bytes) (Err f) runs runs [] (faulty f) (sym (append-nil runs))
    (fault_ended old bytes f has is ∙ same_runs (open_schedule bytes).runs (faulty f)) (inr refl)

pub ended-stays-answer : {old : Progress} {bytes : List ℕ} {f : ScheduleFault} → HasRead old bytes → old.fault ≡ Some f
    → (◌≡◌ {A = Result (Unit {0}) ScheduleFault} (Err f) (Err fault.Memory)) ⊎ (◌≡◌ {A = Result (Unit {0}) ScheduleFault} (Err f) (answer_of (finished_schedule bytes)))
ended-stays-answer {old} {bytes} {f} has is =
    answers-by (finished_schedule bytes) (Err f) (open_schedule bytes).runs (faulty f) (fault_ended old bytes f has is) (inr refl)

-- a place has no fault
pub fed-ok : {old : Progress} {bytes : List ℕ} (piece : List ℕ) {next : Place} {before after : List Run} → HasRead old bytes → old.fault ≡ None
    → IsPlace (old.read + length piece) next
    → Takes (Ok next) before after (λ (stream : Bool × List ℕ). schedule_from stream.0 old.place old.read (piece ++ stream.1))
    (λ stream next. schedule_from stream.0 next (old.read + length piece) stream.1)
    → HasRead (record { read = old.read + length piece; place = next; fault = old.fault }) (bytes ++ piece)
fed-ok {old} {bytes} piece {next} {before} {after} has none place takes =
    subst (λ f. HasRead (record { read = old.read + length piece; place = next; fault = f }) (bytes ++ piece)) (sym none)
    (has-after old bytes piece (Ok next) before after has none place takes (λ e. absurd (cc)))
