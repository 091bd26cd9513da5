-- A written schedule is read as its runs.
use Rattle.std.proofs.Common.{suc, ◌≡◌, ◌∙◌, ◌+◌, ◌^◌, ◌<◌, ◌≤◌, ◌==◌, if◌then◌else◌, ℕ, Bool, true, false, List, [], ◌∷◌, ◌++◌, length, drop, refl, ap, sym, arith, lit≤, None, All, Ok, append-nil}
use Rattle.std.proofs.lemmas.{Fmt.decimal_is_IsNumeral, Fmt.length-decimal-le, List.Elements.All-cons, Bool.Decides.nat_tests}
use Rattle.std.proofs.lemmas.List.Splits.{slice_split_at, slice_split_none, length-slice_split}
use Rattle.std.specs.{List.slice_split, Char.is_ascii_digit, Char.digit_value, Fmt.decimal}
use Rattle.std.specs.Str.Parse.{AllDigits, digits_value_after}
use Rattle.thread_machine.specs.declared.choice.Choice.{Choice}
use Rattle.schedule_reader.specs.{declared.run.Run.Run, Places.times_by}
use Rattle.schedule_reader.specs.Schedule.{Token, IsRun, is_blank, whole, schedule_with, schedule_with_piece, schedule_in, no_runs, finished_schedule, choice_of, digits_of, reading_of, reading_after_letter, reading_after_star, reading_of_count, reading_by_thread, reading_by_times}
use Rattle.schedule_reader.specs.Text.{letter_of, times_text, token_of, spaced_tokens, schedule_text}
use Rattle.schedule_reader.proofs.Numbers.{digits_of-digit, number_by-some}

is_digit : (c : ℕ) → digit_value c < 10 → is_ascii_digit c ≡ true
is_digit c below = grind (arith, nat_tests)

-- digits up to what is none
pub digits-then : (ds rest : List ℕ) → AllDigits 10 ds → digits_of rest ≡ [] → digits_of (ds ++ rest) ≡ ds
digits-then [] rest all stops = stops
digits-then (d ∷ ds) rest all stops = digits_of-digit d (ds ++ rest) (is_digit d all.0) ∙ ap (λ more. d ∷ more) (digits-then ds rest all.1 stops)

drop-before : (ds rest : List ℕ) → drop (length ds) (ds ++ rest) ≡ rest
drop-before [] rest = refl
drop-before (d ∷ ds) rest = drop-before ds rest

-- a number that was written is read
thread-read : (at : ℕ) (expiry : Bool) (thread : ℕ) (rest : List ℕ) → thread ≤ 63 → digits_of rest ≡ []
    → reading_after_letter at expiry (decimal thread ++ rest) ≡ reading_by_thread at (choice_of expiry thread) (length (decimal thread)) rest
thread-read at expiry thread rest small stops =
    let numeral = decimal_is_IsNumeral thread (omega arith) in
    let few = length-decimal-le 2 thread (omega arith) (omega arith) (omega arith) in
    grind (arith, digits-then, number_by-some, drop-before)

times-read : (at : ℕ) (choice : Choice) (times : ℕ) → times ≤ 1000000000
    → reading_after_star at choice (decimal times) ≡ reading_by_times at choice times (length (decimal times)) []
times-read at choice times small =
    let numeral = decimal_is_IsNumeral times (omega arith) in
    let few = length-decimal-le 10 times (omega arith) (omega arith) (omega arith) in
    let part = decimal times ++ [] in
    let count = length (decimal times) in
    ap (reading_after_star at choice) (sym (append-nil (decimal times)))
    ∙ ap (λ ds. times_by at choice (length ds) (digits_value_after 10 0 ds) (drop (length ds) part)) (digits-then (decimal times) [] numeral.0.1 refl)
    ∙ ap (λ v. times_by at choice count v (drop count part)) numeral.1
    ∙ ap (λ n. reading_of_count at choice count (drop count part) n) (number_by-some count times 10 1000000000 few small)
    ∙ ap (reading_by_times at choice times count) (drop-before (decimal times) [])

pub not_zero : (n : ℕ) → 0 < n → (n == 0) ≡ false
not_zero n some = grind (arith, nat_tests)

-- a token is read as its run
token-read : (at : ℕ) (run : Run) → IsRun run → reading_of at (token_of run) ≡ Token run
token-read at run is = grind (arith, decimal_is_IsNumeral, thread-read, nat_tests, not_zero, times-read)

-- there is no blank in it
no_blank : (c : ℕ) → 33 ≤ c → is_blank c ≡ false
no_blank c above = grind (arith, nat_tests)

digit_above : (c : ℕ) → digit_value c < 10 → 33 ≤ c
digit_above c below = grind (arith, nat_tests)

abbrev pub Above : List ℕ → Type 0
Above [] = Unit {0}
Above (b ∷ bs) = (33 ≤ b) × Above bs

pub above-digits : (ds : List ℕ) → AllDigits 10 ds → Above ds
above-digits [] all = tt
above-digits (d ∷ ds) all = (digit_above d all.0, above-digits ds all.1)

above-append : (xs ys : List ℕ) → Above xs → Above ys → Above (xs ++ ys)
above-append [] ys first second = second
above-append (x ∷ xs) ys first second = (first.0, above-append xs ys first.1 second)

pub above-blanks : (bs : List ℕ) → Above bs → All (λ b. is_blank b ≡ false) bs
above-blanks [] above = λ k d there. absurd (omega arith)
above-blanks (b ∷ bs) above = All-cons (λ c. is_blank c ≡ false) b bs (no_blank b above.0) (above-blanks bs above.1)

above-times : (times : ℕ) (once : Bool) → times < 2 ^ 64 → Above (if once then [] else 42 ∷ decimal times)
above-times times true small = tt
above-times times false small = (lit≤ tt, above-digits (decimal times) (decimal_is_IsNumeral times small).0.1)

above-letter : (expiry : Bool) → 33 ≤ letter_of expiry
above-letter true = lit≤ tt
above-letter false = lit≤ tt

token-blanks : (run : Run) → IsRun run → All (λ b. is_blank b ≡ false) (token_of run)
token-blanks run is =
    above-blanks (token_of run) (
      above-letter run.choice.expiry,
      above-append (decimal run.choice.thread) (times_text run.times)
          (above-digits (decimal run.choice.thread) (decimal_is_IsNumeral run.choice.thread (omega (arith, is.thread))).0.1)
          (above-times run.times (run.times == 1) (omega (arith, is.few))),
    )

-- pieces after the first
schedule_in-cons : (at : ℕ) (piece : List ℕ) (pieces : List (List ℕ)) → 0 < length pieces
    → schedule_in true at (piece ∷ pieces) ≡ schedule_with_piece at piece (schedule_in true (at + length piece + 1) pieces)
schedule_in-cons at piece pieces some = grind arith

-- the tokens from one on
tokens-read : (at : ℕ) (run : Run) (runs : List Run) → IsRun run → All IsRun runs
    → schedule_in true at (slice_split is_blank (token_of run ++ spaced_tokens runs)) ≡ record { runs = run ∷ runs; fault = None }
tokens-read at run [] is all =
    ap (λ bs. schedule_in true at (slice_split is_blank bs)) (append-nil (token_of run))
    ∙ ap (schedule_in true at) (slice_split_none is_blank (token_of run) (token-blanks run is))
    ∙ ap (λ r. schedule_with (whole r) no_runs) (token-read at run is)
tokens-read at run (next ∷ runs) is all =
    let rest = token_of next ++ spaced_tokens runs in
    let some : 0 < length (slice_split is_blank rest) = omega (arith, length-slice_split is_blank rest) in
    let after = at + length (token_of run) + 1 in
    ap (schedule_in true at) (slice_split_at is_blank (token_of run) 32 rest (token-blanks run is) refl)
    ∙ schedule_in-cons at (token_of run) (slice_split is_blank rest) some
    ∙ ap (λ r. schedule_with (whole r) (schedule_in true after (slice_split is_blank rest))) (token-read at run is)
    ∙ ap (schedule_with (Ok run)) (tokens-read after next runs (all 0 next (omega arith)) (λ k d there. all (suc k) d (omega arith)))

-- the whole text
pub text-read : (runs : List Run) → All IsRun runs → finished_schedule (schedule_text runs) ≡ record { runs = runs; fault = None }
text-read [] all = refl
text-read (run ∷ runs) all = tokens-read 0 run runs (all 0 run (omega arith)) (λ k d there. all (suc k) d (omega arith))
