-- A record gets one choice more, and is read as its choices.
use Rattle.std.proofs.Common.{suc, ◌≡◌, ◌+◌, ◌*◌, ◌/◌, ◌%◌, ◌<◌, ◌≤◌, ℕ, List, [], ◌∷◌, ◌++◌, length, refl, ap, arith, append_assoc, length-append, rules, All, None, append-nil}
use Rattle.std.proofs.lemmas.Fmt.{decimal_digit, decimal_step, length-decimal-le}
use Rattle.std.proofs.lemmas.List.Elements.{All-cons, All-nil}
use Rattle.thread_machine.specs.declared.choice.Choice.{Choice}
use Rattle.schedule_reader.specs.{declared.run.Run.Run, Text.letter_of, Text.token_of, Text.spaced_tokens}
use Rattle.schedule_reader.specs.Schedule.{IsRun, choices_of, finished_schedule, run_of}
use Rattle.schedule_reader.specs.Record.{IsNamed, once_each, record_text}
use Rattle.schedule_reader.proofs.{Runs.spelled, Tokens.text-read}

-- a choice by itself as a token
pub token-long : (choice : Choice) (old : List ℕ) → 10 ≤ choice.thread → choice.thread ≤ 63
    → ((old ++ letter_of choice.expiry ∷ []) ++ (48 + choice.thread / 10) ∷ []) ++ (48 + choice.thread % 10) ∷ []
    ≡ old ++ token_of (run_of choice 1)
token-long choice old large small = grind (arith, append_assoc, decimal_step, decimal_digit)

pub token-short : (choice : Choice) (old : List ℕ) → choice.thread < 10
    → (old ++ letter_of choice.expiry ∷ []) ++ (48 + choice.thread % 10) ∷ [] ≡ old ++ token_of (run_of choice 1)
token-short choice old small = grind (arith, append_assoc, decimal_digit)

-- one run more
spaced-more : (runs : List Run) (run : Run) → spaced_tokens (runs ++ run ∷ []) ≡ spaced_tokens runs ++ 32 ∷ token_of run
spaced-more [] run = ap (λ t. 32 ∷ t) (append-nil (token_of run))
spaced-more (next ∷ runs) run = grind (arith, append_assoc, spaced-more runs run)

once-more : (choices : List Choice) (choice : Choice) → once_each (choices ++ choice ∷ []) ≡ once_each choices ++ run_of choice 1 ∷ []
once-more [] choice = refl
once-more (first ∷ choices) choice = ap (λ runs. run_of first 1 ∷ runs) (once-more choices choice)

-- the first choice of a record
pub record-first : (choices : List Choice) (choice : Choice) (old new : List ℕ) → old ≡ record_text choices → length old ≡ 0
    → new ≡ old ++ token_of (run_of choice 1) → new ≡ record_text (choices ++ choice ∷ [])
record-first [] choice old new is none more = grind (arith, append-nil)
record-first (first ∷ choices) choice old new is none more = grind arith

-- and each further one
pub record-more : (choices : List Choice) (choice : Choice) (old new : List ℕ) → old ≡ record_text choices → 0 < length old
    → new ≡ (old ++ 32 ∷ []) ++ token_of (run_of choice 1) → new ≡ record_text (choices ++ choice ∷ [])
record-more choices choice old new is some more = grind (arith, append_assoc, spaced-more, once-more)

-- a record is read as its choices
pub choices-once : (choices : List Choice) → choices_of (once_each choices) ≡ choices
choices-once [] = refl
choices-once (choice ∷ choices) = ap (λ cs. choice ∷ cs) (choices-once choices)

pub once-spelled : (choices : List Choice) → All IsNamed choices → All IsRun (once_each choices)
once-spelled [] all = All-nil IsRun
once-spelled (choice ∷ choices) all =
    All-cons IsRun (run_of choice 1) (once_each choices) (spelled choice 0 (all 0 choice (omega arith)) (omega arith))
    (once-spelled choices (λ k d there. all (suc k) d (omega (arith, there))))

pub record-read : (choices : List Choice) → All IsNamed choices
    → finished_schedule (record_text choices) ≡ record { runs = once_each choices; fault = None }
record-read choices all = text-read (once_each choices) (once-spelled choices all)

-- it has at most four bytes for each of them
token-few : (choice : Choice) → choice.thread ≤ 63 → length (token_of (run_of choice 1)) ≤ 3
token-few choice small = search (rules, length-decimal-le)

spaced-few : (choices : List Choice) → All IsNamed choices → length (spaced_tokens (once_each choices)) ≤ 4 * length choices
spaced-few [] all = omega arith
spaced-few (choice ∷ choices) all =
    let token = token_of (run_of choice 1) in
    let rest = spaced_tokens (once_each choices) in
    omega (
      arith,
      token-few choice (all 0 choice (omega arith)),
      length-append token rest,
      spaced-few choices (λ k d there. all (suc k) d (omega (arith, there))),
    )

pub record-few : (choices : List Choice) → All IsNamed choices → length (record_text choices) ≤ 4 * length choices
record-few [] all = omega arith
record-few (choice ∷ choices) all =
    let token = token_of (run_of choice 1) in
    let rest = spaced_tokens (once_each choices) in
    omega (
      arith,
      token-few choice (all 0 choice (omega arith)),
      length-append token rest,
      spaced-few choices (λ k d there. all (suc k) d (omega (arith, there))),
    )
