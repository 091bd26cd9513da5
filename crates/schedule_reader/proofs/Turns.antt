-- A turn that is named once, read whole.
use Rattle.std.proofs.Common.{◌≡◌, ◌∙◌, ◌+◌, ◌-◌, ◌*◌, ◌<◌, ◌≤◌, ℕ, Bool, true, false, List, [], ◌∷◌, ◌++◌, length, drop, refl, ap, sym, subst, arith, lit≤, append_assoc, drop-drop, All, Ok, Err, get_or, append-nil}
use Rattle.std.proofs.lemmas.List.{drop_all, Elements.All-append, Elements.All-cons, Elements.All-nil}
use Rattle.std.proofs.lemmas.{List.Splits.slice_split_at, List.Splits.length-slice_split, Bool.Decides.nat_tests}
use Rattle.std.specs.{List.slice_split, Char.is_ascii_digit, Char.digit_value}
use Rattle.std.specs.Str.Parse.{AllDigits, digits_value_after}
use Rattle.schedule_reader.specs.declared.{run.Run.Run, fault.ScheduleFault.ScheduleFault, place.Place.Place}
use Rattle.schedule_reader.specs.Schedule.{Token, IsRun, is_blank, choice_of, run_of, digits_of, reading_of}
use Rattle.schedule_reader.specs.Places.{BeginsWithTurn, Takes, schedule_from, with_runs}
use Rattle.schedule_reader.specs.declared.place.Place.TheVariants as place
use Rattle.schedule_reader.proofs.Numbers.{digit_value-digit, number_by-some}
use Rattle.schedule_reader.proofs.Streams.{takes-plain, with_runs-append}
use Rattle.schedule_reader.proofs.Tokens.{above-blanks, above-digits, digits-then, not_zero}

-- the letter and one or two digits are a token
digits-read : (at thread : ℕ) (ds : List ℕ) → AllDigits 10 ds → 1 ≤ length ds → length ds ≤ 2 → digits_value_after 10 0 ds ≡ thread → thread ≤ 63
    → reading_of at (116 ∷ ds) ≡ Token (run_of (choice_of false thread) 1)
digits-read at thread ds all some few value small =
    let count = length ds in
    let start = at + 1 in
    let read : digits_of ds ≡ ds = ap digits_of (sym (append-nil ds)) ∙ digits-then ds [] all refl in
    grind (arith, drop_all, number_by-some, not_zero)

-- what a test of three or four bytes finds
digit_below : (b : ℕ) → is_ascii_digit b ≡ true → digit_value b < 10
digit_below b digit = grind (arith, nat_tests)

two_values : (n m a b : ℕ) → n ≡ a → m ≡ b → n * 10 + m ≡ a * 10 + b
two_values n m a b first second = ap (λ k. k * 10 + m) first ∙ ap (λ k. a * 10 + k) second

pub begins-3 : (bytes : List ℕ) → 4 ≤ length bytes → get_or bytes 0 0 ≡ 116 → is_ascii_digit (get_or bytes 1 0) ≡ true → get_or bytes 2 0 ≡ 32
    → BeginsWithTurn bytes (get_or bytes 1 0 - 48) 3
begins-3 (b ∷ d ∷ e ∷ rest) long t digit space =
    let value = digit_value-digit d digit in
    record {
      digits = d ∷ [];
      counted = refl;
      some = omega arith;
      few = omega arith;
      all = (digit_below d digit, tt);
      value = omega (arith, value);
      small = omega (arith, value, digit_below d digit);
      begins = ap (λ n. n ∷ d ∷ e ∷ rest) t ∙ ap (λ n. 116 ∷ d ∷ n ∷ rest) space;
      within = omega (arith, long);
    }
begins-3 _ long t digit space = absurd (omega arith)

pub begins-4 : (bytes : List ℕ) → 4 ≤ length bytes → get_or bytes 0 0 ≡ 116 → is_ascii_digit (get_or bytes 1 0) ≡ true
    → is_ascii_digit (get_or bytes 2 0) ≡ true → get_or bytes 3 0 ≡ 32 → (get_or bytes 1 0 - 48) * 10 + (get_or bytes 2 0 - 48) ≤ 63
    → BeginsWithTurn bytes ((get_or bytes 1 0 - 48) * 10 + (get_or bytes 2 0 - 48)) 4
begins-4 (b ∷ d ∷ e ∷ f ∷ rest) long t ten digit space small = record {
  digits = d ∷ e ∷ [];
  counted = refl;
  some = omega arith;
  few = omega arith;
  all = (digit_below d ten, (digit_below e digit, tt));
  value = two_values (0 + digit_value d) (digit_value e) (d - 48) (e - 48) (omega (arith, digit_value-digit d ten)) (digit_value-digit e digit);
  small = small;
  begins = ap (λ n. n ∷ d ∷ e ∷ f ∷ rest) t ∙ ap (λ n. 116 ∷ d ∷ e ∷ n ∷ rest) space;
  within = omega (arith, long);
}
begins-4 _ long t ten digit space small = absurd (omega arith)

-- a turn and the space behind it add one run
turn-schedule : (finished : Bool) (at thread count : ℕ) (bytes rest : List ℕ) → BeginsWithTurn bytes thread count
    → schedule_from finished place.Between at (bytes ++ rest)
    ≡ with_runs (run_of (choice_of false thread) 1 ∷ []) (schedule_from finished place.Between (at + count) (drop count bytes ++ rest))
turn-schedule finished at thread count bytes rest begins =
    let piece = 116 ∷ begins.digits in
    let after = drop count bytes ++ rest in
    let run = run_of (choice_of false thread) 1 in
    let end : at + length piece + 1 ≡ at + count = omega (arith, begins.counted) in
    let some : 0 < length (slice_split is_blank after) = omega (arith, length-slice_split is_blank after) in
    grind (arith, digits-read, above-blanks, above-digits, append_assoc, slice_split_at)

-- no turn
pub takes-nothing : (at n : ℕ) (bytes : List ℕ) (runs : List Run) → n ≡ 0
    → Takes (Ok n) runs runs (λ (stream : Bool × List ℕ). schedule_from stream.0 place.Between at (bytes ++ stream.1))
    (λ stream n. schedule_from stream.0 place.Between (at + n) (drop n bytes ++ stream.1))
takes-nothing at n bytes runs none = grind (arith, takes-plain)

-- one turn more, behind those with which the bytes begin
pub takes-turn : (at done end thread count : ℕ) (bytes rest : List ℕ) (before between after : List Run) (run : Run) → rest ≡ drop done bytes → done + count ≡ end
    → Takes (Ok done) before between (λ (stream : Bool × List ℕ). schedule_from stream.0 place.Between at (bytes ++ stream.1))
    (λ stream n. schedule_from stream.0 place.Between (at + n) (drop n bytes ++ stream.1))
    → BeginsWithTurn rest thread count → run ≡ run_of (choice_of false thread) 1 → after ≡ between ++ (run ∷ [])
    → Takes (Ok end) before after (λ (stream : Bool × List ℕ). schedule_from stream.0 place.Between at (bytes ++ stream.1))
    (λ stream n. schedule_from stream.0 place.Between (at + n) (drop n bytes ++ stream.1))
takes-turn at done end thread count bytes rest before between after run same up so_far begins is list = record {
  added = so_far.added ++ (run ∷ []);
  list = list ∙ ap (λ rs. rs ++ (run ∷ [])) so_far.list ∙ append_assoc before so_far.added (run ∷ []);
  schedules = λ (stream : Bool × List ℕ).
      let first = so_far.schedules stream in
      let next = at + done in
      let left = schedule_from stream.0 place.Between (at + end) (drop end bytes ++ stream.1) in
      let on : next + count ≡ at + end = omega arith in
      let one : schedule_from stream.0 place.Between next (drop done bytes ++ stream.1) ≡ with_runs (run ∷ []) left =
      ap (λ bs. schedule_from stream.0 place.Between next (bs ++ stream.1)) (sym same)
      ∙ turn-schedule stream.0 next thread count rest stream.1 begins
      ∙ ap (λ r. with_runs (r ∷ []) (schedule_from stream.0 place.Between (next + count) (drop count rest ++ stream.1))) (sym is)
      ∙ ap (λ n. with_runs (run ∷ []) (schedule_from stream.0 place.Between n (drop count rest ++ stream.1))) on
      ∙ ap (λ bs. with_runs (run ∷ []) (schedule_from stream.0 place.Between (at + end) (bs ++ stream.1)))
      (ap (drop count) same ∙ drop-drop count done bytes ∙ ap (λ n. drop n bytes) up) in
      (left, (first.1.0 ∙ ap (with_runs so_far.added) (first.1.1 ∙ one) ∙ with_runs-append so_far.added (run ∷ []) left, refl));
}

pub spelled-turn : (thread : ℕ) (before after : List Run) (run : Run) → thread ≤ 63 → run ≡ run_of (choice_of false thread) 1 → after ≡ before ++ (run ∷ [])
    → All IsRun before → All IsRun after
spelled-turn thread before after run small is list all =
    let turn : IsRun (run_of (choice_of false thread) 1) = record { thread = small; some = lit≤ tt; few = lit≤ tt } in
    subst (All IsRun) (sym list)
    (All-append IsRun before (run ∷ []) all (All-cons IsRun run [] (subst IsRun (sym is) turn) (All-nil IsRun)))

-- what the turns add is what the bytes add
pub takes-turns : (p : Place) (at count : ℕ) (bytes : List ℕ) (before after : List Run) → p ≡ place.Between
    → Takes (Ok count) before after (λ (stream : Bool × List ℕ). schedule_from stream.0 place.Between at (bytes ++ stream.1))
    (λ stream n. schedule_from stream.0 place.Between (at + n) (drop n bytes ++ stream.1))
    → Takes (Ok (place.Between, count)) before after (λ (stream : Bool × List ℕ). schedule_from stream.0 p at (bytes ++ stream.1))
    (λ stream (next : Place × ℕ). schedule_from stream.0 next.0 (at + next.1) (drop next.1 bytes ++ stream.1))
takes-turns p at count bytes before after here turns = record {
  added = turns.added;
  list = turns.list;
  schedules = λ (stream : Bool × List ℕ). let t = turns.schedules stream in (
    t.0,
    (ap (λ q. schedule_from stream.0 q at (bytes ++ stream.1)) here ∙ t.1.0, t.1.1),
  );
}

-- and after what was read before it, in a piece
pub takes-some : (p next q : Place) (at done count : ℕ) (piece rest : List ℕ) (before between after : List Run) → rest ≡ drop done piece
    → Takes (Ok next) before between (λ (stream : Bool × List ℕ). schedule_from stream.0 p at (piece ++ stream.1))
    (λ stream n. schedule_from stream.0 n (at + done) (drop done piece ++ stream.1))
    → Takes (Ok (q, count)) between after (λ (stream : Bool × List ℕ). schedule_from stream.0 next (at + done) (rest ++ stream.1))
    (λ stream (r : Place × ℕ). schedule_from stream.0 r.0 (at + done + r.1) (drop r.1 rest ++ stream.1))
    → Takes (Ok q) before after (λ (stream : Bool × List ℕ). schedule_from stream.0 p at (piece ++ stream.1))
    (λ stream n. schedule_from stream.0 n (at + (done + count)) (drop (done + count) piece ++ stream.1))
takes-some p next q at done count piece rest before between after same so_far one = record {
  added = so_far.added ++ one.added;
  list = one.list ∙ ap (λ rs. rs ++ one.added) so_far.list ∙ append_assoc before so_far.added one.added;
  schedules = λ (stream : Bool × List ℕ). let first = so_far.schedules stream in let second = one.schedules stream in (
    second.0,
    (
      first.1.0
          ∙ ap (with_runs so_far.added)
          (first.1.1 ∙ ap (λ bs. schedule_from stream.0 next (at + done) (bs ++ stream.1)) (sym same) ∙ second.1.0)
          ∙ with_runs-append so_far.added one.added second.0,
      second.1.1 ∙ ap (λ bs. schedule_from stream.0 q (at + done + count) (drop count bs ++ stream.1)) same
          ∙ ap (λ bs. schedule_from stream.0 q (at + done + count) (bs ++ stream.1)) (drop-drop count done piece)
          ∙ ap (λ n. schedule_from stream.0 q n (drop (done + count) piece ++ stream.1)) (omega arith),
    ),
  );
}

pub takes-some_fault : (p next : Place) (f : ScheduleFault) (at offset done : ℕ) (piece rest : List ℕ) (before between after : List Run)
    → rest ≡ drop done piece
    → Takes (Ok next) before between (λ (stream : Bool × List ℕ). schedule_from stream.0 p at (piece ++ stream.1))
    (λ stream n. schedule_from stream.0 n offset (drop done piece ++ stream.1))
    → Takes (Err f) between after (λ (stream : Bool × List ℕ). schedule_from stream.0 next offset (rest ++ stream.1))
    (λ stream (r : Place × ℕ). schedule_from stream.0 r.0 (offset + r.1) (drop r.1 rest ++ stream.1))
    → Takes (Err f) before after (λ (stream : Bool × List ℕ). schedule_from stream.0 p at (piece ++ stream.1))
    (λ stream (n : Place). schedule_from stream.0 n (at + length piece) stream.1)
takes-some_fault p next f at offset done piece rest before between after same so_far one = record {
  added = so_far.added ++ one.added;
  list = one.list ∙ ap (λ rs. rs ++ one.added) so_far.list ∙ append_assoc before so_far.added one.added;
  schedules = λ (stream : Bool × List ℕ). let first = so_far.schedules stream in let second = one.schedules stream in (
    second.0,
    (
      first.1.0
          ∙ ap (with_runs so_far.added)
          (first.1.1 ∙ ap (λ bs. schedule_from stream.0 next offset (bs ++ stream.1)) (sym same) ∙ second.1.0)
          ∙ with_runs-append so_far.added one.added second.0,
      second.1.1,
    ),
  );
}

-- one byte alone
pub takes-one : (p q : Place) (at : ℕ) (rest : List ℕ) (before was after : List Run) → 0 < length rest → was ≡ before
    → Takes (Ok q) was after (λ (stream : Bool × List ℕ). schedule_from stream.0 p at (get_or rest 0 0 ∷ stream.1))
    (λ stream n. schedule_from stream.0 n (at + 1) stream.1)
    → Takes (Ok (q, 1)) before after (λ (stream : Bool × List ℕ). schedule_from stream.0 p at (rest ++ stream.1))
    (λ stream (r : Place × ℕ). schedule_from stream.0 r.0 (at + r.1) (drop r.1 rest ++ stream.1))
takes-one p q at [] before was after some same one = absurd (omega arith)
takes-one p q at (b ∷ bs) before was after some same one = record {
  added = one.added;
  list = one.list ∙ ap (λ rs. rs ++ one.added) same;
  schedules = λ (stream : Bool × List ℕ). let t = one.schedules (stream.0, bs ++ stream.1) in (t.0, (t.1.0, t.1.1));
}

pub takes-one_fault : (p : Place) (f : ScheduleFault) (at : ℕ) (rest : List ℕ) (before was after : List Run) → 0 < length rest → was ≡ before
    → Takes (Err f) was after (λ (stream : Bool × List ℕ). schedule_from stream.0 p at (get_or rest 0 0 ∷ stream.1))
    (λ stream (n : Place). schedule_from stream.0 n (at + 1) stream.1)
    → Takes (Err f) before after (λ (stream : Bool × List ℕ). schedule_from stream.0 p at (rest ++ stream.1))
    (λ stream (r : Place × ℕ). schedule_from stream.0 r.0 (at + r.1) (drop r.1 rest ++ stream.1))
takes-one_fault p f at [] before was after some same one = absurd (omega arith)
takes-one_fault p f at (b ∷ bs) before was after some same one = record {
  added = one.added;
  list = one.list ∙ ap (λ rs. rs ++ one.added) same;
  schedules = λ (stream : Bool × List ℕ). let t = one.schedules (stream.0, bs ++ stream.1) in (t.0, (t.1.0, t.1.1));
}
