-- Numbers whose digits come one by one.
use Rattle.std.proofs.Common.{◌≡◌, ◌∙◌, ◌⊎◌, ◌+◌, ◌-◌, ◌*◌, ◌<◌, ◌≤◌, cond, ℕ, Bool, true, List, [], ◌∷◌, ap, arith, Some}
use Rattle.std.proofs.lemmas.{List.Sums.take_while-cons, Bool.Decides.nat_tests}
use Rattle.std.specs.{Char.is_ascii_digit, Char.digit_value, Str.Parse.digits_value_after}
use Rattle.thread_machine.specs.declared.choice.Choice.{Choice}
use Rattle.schedule_reader.specs.declared.fault.ScheduleFault.TheVariants as fault
use Rattle.schedule_reader.specs.Schedule.{Faulty, choice_of, digits_of, reading_by_thread, reading_by_times}
use Rattle.schedule_reader.specs.Places.{number_by, thread_from, times_from}

-- the digits of a part that begins with a digit
pub digits_of-digit : (b : ℕ) (part : List ℕ) → is_ascii_digit b ≡ true → digits_of (b ∷ part) ≡ b ∷ digits_of part
digits_of-digit b part digit = take_while-cons is_ascii_digit b part ∙ ap (λ t. cond t (b ∷ digits_of part) []) digit

pub digit_value-digit : (b : ℕ) → is_ascii_digit b ≡ true → digit_value b ≡ b - 48
digit_value-digit b digit = grind (arith, nat_tests)

-- more digits make no smaller number
value-ge : (n : ℕ) (ds : List ℕ) → n ≤ digits_value_after 10 n ds
value-ge n [] = omega arith
value-ge n (d ∷ ds) = omega (arith, value-ge (n * 10 + digit_value d) ds)

-- too many digits or too large a number
pub number_by-some : (count value most_digits most : ℕ) → count ≤ most_digits → value ≤ most → number_by count value most_digits most ≡ Some value
number_by-some count value most_digits most few small = grind (arith, nat_tests)

-- one digit more before the rest
pub thread-digit : (at : ℕ) (expiry : Bool) (digits number b : ℕ) (part : List ℕ) → is_ascii_digit b ≡ true
    → thread_from at expiry digits number (b ∷ part) ≡ thread_from (at + 1) expiry (digits + 1) (number * 10 + (b - 48)) part
thread-digit at expiry digits number b part digit = grind (arith, digits_of-digit, digit_value-digit)

pub times-digit : (at : ℕ) (choice : Choice) (digits number b : ℕ) (part : List ℕ) → is_ascii_digit b ≡ true
    → times_from at choice digits number (b ∷ part) ≡ times_from (at + 1) choice (digits + 1) (number * 10 + (b - 48)) part
times-digit at choice digits number b part digit = grind (arith, digits_of-digit, digit_value-digit)

-- with it there are too many, or the number is too large, whatever follows
pub thread-too_far : (at : ℕ) (expiry : Bool) (digits number b : ℕ) (part : List ℕ) → is_ascii_digit b ≡ true → (digits ≡ 2) ⊎ (63 < number * 10 + (b - 48))
    → thread_from at expiry digits number (b ∷ part) ≡ Faulty (fault.Number (at - digits))
thread-too_far at expiry digits number b part digit above = grind (arith, thread-digit, value-ge)

pub times-too_far : (at : ℕ) (choice : Choice) (digits number b : ℕ) (part : List ℕ) → is_ascii_digit b ≡ true → (digits ≡ 10) ⊎ (1000000000 < number * 10 + (b - 48))
    → times_from at choice digits number (b ∷ part) ≡ Faulty (fault.Repeat (at - digits))
times-too_far at choice digits number b part digit above = grind (arith, times-digit, value-ge)

-- nothing comes next
pub thread-end : (at : ℕ) (expiry : Bool) (digits number : ℕ) → digits ≤ 2 → number ≤ 63
    → thread_from at expiry digits number [] ≡ reading_by_thread (at - digits) (choice_of expiry number) digits []
thread-end at expiry digits number few small = grind (arith, number_by-some)

pub times-end : (at : ℕ) (choice : Choice) (digits number : ℕ) → digits ≤ 10 → number ≤ 1000000000
    → times_from at choice digits number [] ≡ reading_by_times (at - digits) choice number digits []
times-end at choice digits number few small = grind (arith, number_by-some)
