-- The choice that bytes name, as a test of four or five of them finds it.
use Rattle.std.proofs.Common.{◌≡◌, ◌≢◌, ◌∙◌, ◌+◌, ◌<◌, ◌≤◌, ◌==◌, ◌-◌, ◌*◌, ◌/◌, ◌%◌, ℕ, Bool, true, false, List, [], ◌∷◌, ◌++◌, length, cond, ap, sym, arith, append_assoc, decimal, codes, get_or, if◌then◌else◌, eq-eqb}
use Rattle.std.proofs.lemmas.{Bool.Decides.nat_tests, Fmt.decimal_digit}
use Rattle.std.specs.Char.{is_ascii_digit}
use Rattle.thread_machine.specs.declared.choice.Choice.{Choice}
use Rattle.trace_text.specs.Reading.{BeginsWithName}
use Rattle.trace_text.proofs.LineEnds.{two_digits}

-- what a test of four or five bytes finds
letter_is : (expiry : Bool) (letter : ℕ) (text : List ℕ) → cond expiry 120 116 ≡ letter
    → 32 ∷ letter ∷ text ≡ (if expiry then codes " x" else codes " t") ++ text
letter_is true letter text is = ap (λ l. 32 ∷ l ∷ text) (sym is)
letter_is false letter text is = ap (λ l. 32 ∷ l ∷ text) (sym is)

name_is : (choice : Choice) (letter : ℕ) (digits rest bytes : List ℕ) → cond choice.expiry 120 116 ≡ letter
    → decimal choice.thread ≡ digits → choice.thread ≤ 63 → bytes ≡ 32 ∷ letter ∷ (digits ++ (32 ∷ rest))
    → BeginsWithName bytes choice
name_is choice letter digits rest bytes letter_of spelt few is =
    let word = if choice.expiry then codes " x" else codes " t" in (
      few,
      (
        rest,
        is ∙ letter_is choice.expiry letter (digits ++ (32 ∷ rest)) letter_of
            ∙ ap (λ ds. word ++ (ds ++ (32 ∷ rest))) (sym spelt)
            ∙ ap (λ t. word ++ t) (sym (append_assoc (decimal choice.thread) (32 ∷ []) rest))
            ∙ sym (append_assoc word (decimal choice.thread ++ (32 ∷ [])) rest),
      ),
    )

digit_under : (b : ℕ) → is_ascii_digit b ≡ true → b - 48 < 10
digit_under b digit = grind (arith, nat_tests)

digit_from : (b : ℕ) → is_ascii_digit b ≡ true → 48 + (b - 48) ≡ b
digit_from b digit = grind (arith, nat_tests)

pub named_by_one : (bytes : List ℕ) (expiry : Bool) → 5 ≤ length bytes → get_or bytes 0 0 ≡ 32
    → cond expiry 120 116 ≡ get_or bytes 1 0 → is_ascii_digit (get_or bytes 2 0) ≡ true → get_or bytes 3 0 ≡ 32
    → BeginsWithName bytes (record { thread = get_or bytes 2 0 - 48; expiry = expiry })
named_by_one (a ∷ b ∷ c ∷ d ∷ rest) expiry long space letter digit after =
    let small = digit_under c digit in
    name_is (record { thread = c - 48; expiry = expiry }) b (c ∷ []) rest (a ∷ b ∷ c ∷ d ∷ rest) letter
    (decimal_digit (c - 48) small ∙ ap (λ n. n ∷ []) (digit_from c digit)) (omega (arith, small))
    (ap (λ n. n ∷ b ∷ c ∷ d ∷ rest) space ∙ ap (λ n. 32 ∷ b ∷ c ∷ n ∷ rest) after)
named_by_one _ expiry long space letter digit after = absurd (omega arith)

pub named_by_two : (bytes : List ℕ) (expiry : Bool) → 5 ≤ length bytes → get_or bytes 0 0 ≡ 32
    → cond expiry 120 116 ≡ get_or bytes 1 0 → is_ascii_digit (get_or bytes 2 0) ≡ true → get_or bytes 2 0 - 48 ≢ 0
    → is_ascii_digit (get_or bytes 3 0) ≡ true → get_or bytes 4 0 ≡ 32
    → (get_or bytes 2 0 - 48) * 10 + (get_or bytes 3 0 - 48) ≤ 63
    → BeginsWithName bytes (record { thread = (get_or bytes 2 0 - 48) * 10 + (get_or bytes 3 0 - 48); expiry = expiry })
named_by_two (a ∷ b ∷ c ∷ d ∷ e ∷ rest) expiry long space letter ten some digit after few =
    let thread = (c - 48) * 10 + (d - 48) in
    let small = digit_under d digit in
    let first : 48 + thread / 10 ≡ c = omega (arith, digit_from c ten, small) in
    let last : 48 + thread % 10 ≡ d = omega (arith, digit_from d digit, small) in
    name_is (record { thread = thread; expiry = expiry }) b (c ∷ d ∷ []) rest (a ∷ b ∷ c ∷ d ∷ e ∷ rest) letter
    (two_digits thread (omega (arith, some)) (omega (arith, few)) ∙ ap (λ n. n ∷ (48 + thread % 10) ∷ []) first ∙ ap (λ n. c ∷ n ∷ []) last) few
    (ap (λ n. n ∷ b ∷ c ∷ d ∷ e ∷ rest) space ∙ ap (λ n. 32 ∷ b ∷ c ∷ d ∷ n ∷ rest) after)
named_by_two _ expiry long space letter ten some digit after few = absurd (omega arith)

-- the letter of an expiry, and of a turn
pub letter_x : (letter : ℕ) → letter ≡ 120 → cond (letter == 120) 120 116 ≡ letter
letter_x letter is = ap (λ b. cond b 120 116) (eq-eqb letter 120 is) ∙ sym is

pub letter_t : (letter : ℕ) → letter ≡ 116 → cond (letter == 120) 120 116 ≡ letter
letter_t letter is = ap (λ l. cond (l == 120) 120 116) is ∙ sym is
