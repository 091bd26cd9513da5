-- What a choice's own line names.
use Rattle.std.proofs.Common.{◌≡◌, ◌∙◌, ◌+◌, ◌^◌, ◌<◌, ◌≤◌, ◌==◌, ◌&&◌, not, ℕ, Bool, true, false, List, [], ◌∷◌, ◌++◌, length, take, drop, cond, if◌then◌else◌, Option, Some, None, codes, decimal, refl, ap, arith, append_assoc, ℤ, rules, ne_eqb, lt-ltb, le-leb, le-ltb, true≢false}
use Rattle.std.proofs.lemmas.Bool.{and_from, agree_below, agree_below_at, and_parts, false_from_ne_true}
use Rattle.std.proofs.lemmas.{Slice.Eq.bytes_eq-Decides, Fmt.length-decimal-le, Fmt.decimal_nonempty}
use Rattle.std.proofs.Math.Seq.{take-append_seam, drop-append-add}
use Rattle.std.specs.{Fmt.signed_decimal, Fmt.digits, Char.is_ascii_digit, Str.bytes_eq}
use Rattle.std.specs.List.{before_first, after_first, list_all, position_or_len}
use Rattle.thread_machine.specs.declared.choice.Choice.{Choice}
use Rattle.thread_state.specs.declared.event.{Event.Event, What.What, Mark.Mark}
use Rattle.thread_state.specs.declared.event.What.TheVariants as what
use Rattle.thread_state.specs.declared.event.Mark.TheVariants as mark
use Rattle.trace_text.specs.Reading.{is_space, is_step, choice_of_digits, choice_named, choice_in, is_state_line, is_too_long}
use Rattle.trace_text.specs.Lines.{what_text, mark_text, choice_text, event_text, refusal_text}
use Rattle.trace_text.proofs.WholeLines.{is_within, IsPart, Part-append, Part-more, IsLine, Line-end, Line-after, all_more, decimal-number, decimal-part, signed-part}

-- up to the first space
space_after : (xs ys : List ℕ) → list_all (λ b. not (is_space b)) xs ≡ true → position_or_len is_space (xs ++ 32 ∷ ys) ≡ length xs
space_after [] ys none = refl
space_after (x ∷ xs) ys none =
    ap (λ b. cond b (1 + position_or_len is_space (xs ++ 32 ∷ ys)) 0) (and_parts _ _ none).0
    ∙ ap (λ n. 1 + n) (space_after xs ys (and_parts _ _ none).1) ∙ omega arith

pub before_space : (xs ys : List ℕ) → list_all (λ b. not (is_space b)) xs ≡ true → before_first is_space (xs ++ 32 ∷ ys) ≡ xs
before_space xs ys none = ap (λ n. take n (xs ++ 32 ∷ ys)) (space_after xs ys none) ∙ take-append_seam xs (32 ∷ ys)

pub after_space : (xs ys : List ℕ) → list_all (λ b. not (is_space b)) xs ≡ true → after_first is_space (xs ++ 32 ∷ ys) ≡ ys
after_space xs ys none = ap (λ n. drop (n + 1) (xs ++ 32 ∷ ys)) (space_after xs ys none) ∙ drop-append-add xs (32 ∷ ys) 1

-- digits are no spaces
digit-no_space : (b : ℕ) → is_ascii_digit b ≡ true → not (is_space b) ≡ true
digit-no_space b digit = ap not (ne_eqb b 32 (λ e. let no : ⊥ = cc in no))

decimal-no_space : (n : ℕ) → list_all (λ b. not (is_space b)) (decimal n) ≡ true
decimal-no_space n = all_more is_ascii_digit _ digit-no_space (decimal n) (decimal-number n).digits

-- the name of each thread
names : Bool → ℕ → Option Choice → Bool
names expiry n None = false
names true n (Some choice) = choice.expiry && (choice.thread == n)
names false n (Some choice) = not choice.expiry && (choice.thread == n)

each_is_named : (agree_below (λ n. names true n (choice_of_digits true (decimal n))) (λ n. true) 64 ≡ true)
    × (agree_below (λ n. names false n (choice_of_digits false (decimal n))) (λ n. true) 64 ≡ true)
unfolding digits names
each_is_named = (refl, refl)

named_is : (expiry : Bool) (n : ℕ) (named : Option Choice) → names expiry n named ≡ true
    → named ≡ Some (record { thread = n; expiry = expiry })
unfolding names
named_is expiry n named is = grind arith

digits_named : (expiry : Bool) (n : ℕ) → n ≤ 63
    → choice_of_digits expiry (decimal n) ≡ Some (record { thread = n; expiry = expiry })
digits_named true n few =
    named_is true n _ (agree_below_at (λ n. names true n (choice_of_digits true (decimal n))) (λ n. true) 64 n each_is_named.0 (omega (arith, few)))
digits_named false n few =
    named_is false n _ (agree_below_at (λ n. names false n (choice_of_digits false (decimal n))) (λ n. true) 64 n each_is_named.1 (omega (arith, few)))

-- the letter of a choice, and the thread's number
abbrev letter_text : Bool → List ℕ
letter_text expiry = if expiry then codes " x" else codes " t"

letter-part : (expiry : Bool) → IsPart 2 (letter_text expiry)
letter-part true = record { within = refl; few = omega arith }
letter-part false = record { within = refl; few = omega arith }

-- a choice's name
abbrev name_text : Choice → List ℕ
name_text choice = cond choice.expiry 120 116 ∷ decimal choice.thread

name-no_space : (expiry : Bool) (thread : ℕ) → list_all (λ b. not (is_space b)) (cond expiry 120 116 ∷ decimal thread) ≡ true
name-no_space true thread = decimal-no_space thread
name-no_space false thread = decimal-no_space thread

name-named : (expiry : Bool) (thread : ℕ) → thread ≤ 63
    → choice_named (cond expiry 120 116 ∷ decimal thread) ≡ Some (record { thread = thread; expiry = expiry })
name-named true thread few = digits_named true thread few
name-named false thread few = digits_named false thread few

-- a line by its two first words
words-is : (step : ℕ) (choice : Choice) (rest : List ℕ)
    → choice_text step choice ++ rest ≡ decimal step ++ 32 ∷ (name_text choice ++ 32 ∷ rest)
words-is step choice rest = grind (arith, append_assoc)

step_word : (step : ℕ) → step < 10 ^ 13 → is_step (decimal step) ≡ true
step_word step few =
    and_from _ _ (lt-ltb 0 _ (decimal_nonempty step (omega (arith, few))))
    (and_from _ _ (le-leb _ 13 (length-decimal-le 13 step (omega arith) few (omega (arith, few)))) (decimal-number step).digits)

-- a line that begins with a choice names that choice
pub line_names : (step : ℕ) (choice : Choice) (rest : List ℕ) → step < 10 ^ 13 → choice.thread ≤ 63
    → choice_in (choice_text step choice ++ rest) ≡ Some choice
line_names step choice rest few there = search (rules, before_space, decimal-no_space, after_space, words-is, step_word, name-no_space, name-named)

-- it isn't the state line
not_state : (word : List ℕ) → list_all is_ascii_digit word ≡ true → bytes_eq word (codes "state") ≡ false
not_state word digits = grind (arith, false_from_ne_true, bytes_eq-Decides, true≢false)

pub line-no_state : (step : ℕ) (choice : Choice) (rest : List ℕ) → is_state_line (choice_text step choice ++ rest) ≡ false
line-no_state step choice rest = grind (arith, words-is, before_space, decimal-no_space, not_state, decimal-number)

-- the beginning of a choice's line
pub choice-part : (step : ℕ) (choice : Choice) → IsPart 131 (choice_text step choice)
choice-part step choice =
    Part-append 64 67 (decimal step) _ (decimal-part step)
    (Part-append 2 65 (letter_text choice.expiry) _ (letter-part choice.expiry)
    (Part-append 64 1 (decimal choice.thread) (codes " ") (decimal-part choice.thread) (record { within = refl; few = omega arith })))

-- what became of the thread
after_word : (n : ℕ) (word : List ℕ) (value : ℤ) → IsPart n word → n ≤ 6 → IsPart 71 (word ++ signed_decimal value)
after_word n word value p few = Part-more (n + 65) 71 _ (omega (arith, few)) (Part-append n 65 word _ p (signed-part value))

what-part : (w : What) → IsPart 71 (what_text w)
what-part (what.Value value) = after_word 2 (codes "= ") value (record { within = refl; few = omega arith }) (omega arith)
what-part (what.Out value) = after_word 4 (codes "out ") value (record { within = refl; few = omega arith }) (omega arith)
what-part (what.Throws code) = after_word 6 (codes "throw ") code (record { within = refl; few = omega arith }) (omega arith)
what-part (what.Catches code) = after_word 6 (codes "catch ") code (record { within = refl; few = omega arith }) (omega arith)
what-part (what.Dies code) = after_word 4 (codes "die ") code (record { within = refl; few = omega arith }) (omega arith)
what-part _ = record { within = refl; few = omega arith }

-- the mark after it
mark-part : (m : Mark) → IsPart 140 (mark_text m)
mark-part mark.Nothing = record { within = refl; few = omega arith }
mark-part (mark.Phase root view) =
    Part-more 133 140 _ (omega arith)
    (Part-append 3 130 (codes " +p") _ (record { within = refl; few = omega arith })
    (Part-append 64 66 (decimal root) _ (decimal-part root)
    (Part-append 1 65 (codes " ") _ (record { within = refl; few = omega arith }) (signed-part view))))
mark-part (mark.Tripped barrier) =
    Part-more 67 140 _ (omega arith)
    (Part-append 3 64 (codes " +b") _ (record { within = refl; few = omega arith }) (decimal-part barrier))
mark-part (mark.Broke barrier) =
    Part-more 67 140 _ (omega arith)
    (Part-append 3 64 (codes " -b") _ (record { within = refl; few = omega arith }) (decimal-part barrier))

-- a choice's own line: it isn't long, it names the choice, and it isn't the state line
pub record IsOwnLine (choice : Choice) (text : List ℕ) : Type 0 where
  pub line : List ℕ
  pub is : text ≡ line ++ 10 ∷ []
  pub within : list_all is_within line ≡ true
  pub short : is_too_long line ≡ false
  pub names : choice_in line ≡ Some choice
  pub no_state : is_state_line line ≡ false

own_line : (step : ℕ) (choice : Choice) (n : ℕ) (rest : List ℕ) → n ≤ 276 → step < 10 ^ 13 → choice.thread ≤ 63
    → IsLine n rest [] → IsOwnLine choice (choice_text step choice ++ rest)
own_line step choice n rest short few there p =
    let q = Line-after 131 n (choice_text step choice) rest [] (choice-part step choice) p in
    grind (arith, le-ltb, line_names, line-no_state)

-- what stands behind a choice's name
event-line : (pc : ℕ) (event : Event)
    → IsLine 276 (decimal pc ++ (codes " " ++ (what_text event.what ++ (mark_text event.mark ++ codes "\n")))) []
event-line pc event =
    Line-after 64 212 (decimal pc) _ [] (decimal-part pc)
    (Line-after 1 211 (codes " ") _ [] (record { within = refl; few = omega arith })
    (Line-after 71 140 (what_text event.what) _ [] (what-part event.what)
    (Line-after 140 0 (mark_text event.mark) _ [] (mark-part event.mark) (Line-end []))))

none-line : IsLine 6 (codes "- none\n") []
none-line = record { line = codes "- none"; part = record { within = refl; few = omega arith }; is = refl }

limit-line : (pc : ℕ) → IsLine 70 (decimal pc ++ codes " limit\n") []
limit-line pc =
    Line-after 64 6 (decimal pc) (codes " limit\n") [] (decimal-part pc)
    (record { line = codes " limit"; part = record { within = refl; few = omega arith }; is = refl })

pub event-own : (step : ℕ) (choice : Choice) (pc : ℕ) (event : Event) → step < 10 ^ 13 → choice.thread ≤ 63
    → IsOwnLine choice (event_text step choice pc event)
event-own step choice pc event few there = own_line step choice 276 _ (omega arith) few there (event-line pc event)

pub refusal-own : (step : ℕ) (choice : Choice) (pc : Option ℕ) → step < 10 ^ 13 → choice.thread ≤ 63
    → IsOwnLine choice (refusal_text step choice pc)
refusal-own step choice None few there = own_line step choice 6 (codes "- none\n") (omega arith) few there none-line
refusal-own step choice (Some pc) few there =
    own_line step choice 70 (decimal pc ++ codes " limit\n") (omega arith) few there (limit-line pc)

-- whatever its numbers are, the line of a choice is one, and isn't long
one_line : (step : ℕ) (choice : Choice) (n : ℕ) (rest : List ℕ) → n ≤ 276 → IsLine n rest []
    → IsLine 407 (choice_text step choice ++ rest) []
one_line step choice n rest few p =
    let q = Line-after 131 n (choice_text step choice) rest [] (choice-part step choice) p in
    record { line = q.line; part = Part-more (131 + n) 407 q.line (omega (arith, few)) q.part; is = q.is }

pub event-one : (step : ℕ) (choice : Choice) (pc : ℕ) (event : Event) → IsLine 407 (event_text step choice pc event) []
event-one step choice pc event = one_line step choice 276 _ (omega arith) (event-line pc event)

pub refusal-one : (step : ℕ) (choice : Choice) (pc : Option ℕ) → IsLine 407 (refusal_text step choice pc) []
refusal-one step choice None = one_line step choice 6 (codes "- none\n") (omega arith) none-line
refusal-one step choice (Some pc) = one_line step choice 70 (decimal pc ++ codes " limit\n") (omega arith) (limit-line pc)
