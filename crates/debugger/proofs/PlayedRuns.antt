-- Choices that are played, and taken back one by one.
use Rattle.std.proofs.Common.{◌≡◌, ◌∙◌, ◌+◌, ◌-◌, ◌≤◌, ℕ, zero, suc, List, [], ◌∷◌, ◌++◌, length, take, drop, ◌<◌, refl, ap, sym, subst, arith, append-nil, append_assoc, length-append, All, min, replicate, slice_index_or}
use Rattle.std.proofs.{Math.Seq.take-append_seam, lemmas.Grind.flat_map-append, lemmas.List.replicate-append-replicate}
use Rattle.std.proofs.lemmas.List.Elements.{All-append, All-cons, All-nil, All-take}
use native.Mathlib.Numerals.{unary_clauses}
use Rattle.thread_machine.specs.declared.choice.Choice.{Choice}
use Rattle.schedule_reader.specs.{declared.run.Run.Run, Joined.AreJoined, Schedule.choices_of}
use Rattle.trace_text.proofs.Plays.{choices_of-drop}

-- a run more
pub choices-push : (runs : List Run) (run : Run) → choices_of (runs ++ run ∷ []) ≡ choices_of runs ++ replicate run.times run.choice
choices-push runs run = grind (arith, flat_map-append, append-nil)

-- the last run as often as two say
pub choices-joined : (runs : List Run) (last run both : Run) → both.choice ≡ run.choice → last.choice ≡ run.choice
    → both.times ≡ last.times + run.times
    → choices_of (runs ++ both ∷ []) ≡ choices_of (runs ++ last ∷ []) ++ replicate run.times run.choice
choices-joined runs last run both own old sum = grind (arith, choices-push, replicate-append-replicate, append_assoc)

-- some of the choices of a run, and of those behind it as many as are left
pub take-run : (left times : ℕ) (choice : Choice) (rest : List Choice)
    → take left (replicate times choice ++ rest) ≡ replicate (min left times) choice ++ take (left - min left times) rest
take-run zero times choice rest = simp unary_clauses refl
take-run (suc left) zero choice rest = simp unary_clauses refl
take-run (suc left) (suc times) choice rest = simp unary_clauses (ap (λ cs. choice ∷ cs) (take-run left times choice rest))

all_but_last : (choices : List Choice) (last : Choice)
    → choices ≡ take (length (choices ++ last ∷ []) - 1) (choices ++ last ∷ [])
all_but_last choices last =
    let less : length (choices ++ last ∷ []) - 1 ≡ length choices = omega (arith, length-append choices (last ∷ [])) in
    sym (ap (λ n. take n (choices ++ last ∷ [])) less ∙ take-append_seam choices (last ∷ []))

-- a run once less
pub choices-less : (runs : List Run) (last : Run) (n : ℕ) → last.times ≡ n + 1
    → choices_of runs ++ replicate n last.choice
    ≡ take (length (choices_of (runs ++ last ∷ [])) - 1) (choices_of (runs ++ last ∷ []))
choices-less runs last n more =
    let start = choices_of runs in
    let all : choices_of (runs ++ last ∷ []) ≡ (start ++ replicate n last.choice) ++ last.choice ∷ [] =
    choices-push runs last
    ∙ ap (λ m. start ++ replicate m last.choice) more
    ∙ ap (λ cs. start ++ cs) (sym (replicate-append-replicate n 1 last.choice))
    ∙ sym (append_assoc start (replicate n last.choice) (last.choice ∷ [])) in
    grind (arith, all_but_last)

-- what is true of all runs, with another run in place of the last
pub all_last : (P : Run → Type 0) (runs : List Run) (last : Run) → All P (runs ++ last ∷ []) → P last
all_last P [] last all = all 0 last (omega arith)
all_last P (run ∷ runs) last all = all_last P runs last (λ k d there. all (suc k) d (omega (arith, there)))

pub all_but : (P : Run → Type 0) (runs : List Run) (last : Run) → All P (runs ++ last ∷ []) → All P runs
all_but P runs last all =
    subst (All P) (take-append_seam runs (last ∷ [])) (All-take P (length runs) (runs ++ last ∷ []) all)

pub all_with : (P : Run → Type 0) (runs : List Run) (run : Run) → All P runs → P run → All P (runs ++ run ∷ [])
all_with P runs run all is = All-append P runs (run ∷ []) all (All-cons P run [] is (All-nil P))

-- a count that a token can say
abbrev pub IsCounted : Run → Type 0
IsCounted run = (0 < run.times) × (run.times ≤ 1000000000)

-- of runs of which some are left, one more is pushed
pub pushed_on : (now next : List Run) (run : Run) (left times : ℕ) (here rest all : List Choice)
    → times ≡ min left run.times → here ≡ replicate run.times run.choice ++ rest
    → choices_of now ++ take left here ≡ all
    → choices_of next ≡ choices_of now ++ replicate times run.choice
    → choices_of next ++ take (left - times) rest ≡ all
pushed_on now next run left times here rest all is first so_far pushed = grind (arith, append_assoc, take-run)

-- the last run has another count
pub joined_last : (runs : List Run) (a b : Run) → b.choice ≡ a.choice → AreJoined (runs ++ a ∷ []) → AreJoined (runs ++ b ∷ [])
joined_last (run ∷ next ∷ runs) a b same joined = (joined.0, joined_last (next ∷ runs) a b same joined.1)
joined_last runs a b same joined = grind arith

-- another run behind it
pub joined_next : (runs : List Run) (a b : Run) → (a.choice ≡ b.choice → a.times ≡ 1000000000) → AreJoined (runs ++ a ∷ [])
    → AreJoined ((runs ++ a ∷ []) ++ b ∷ [])
joined_next (run ∷ next ∷ runs) a b apart joined = (joined.0, joined_next (next ∷ runs) a b apart joined.1)
joined_next runs a b apart joined = grind arith

-- no last run
pub joined_front : (runs : List Run) (a : Run) → AreJoined (runs ++ a ∷ []) → AreJoined runs
joined_front [] a joined = tt
joined_front (run ∷ []) a joined = tt
joined_front (run ∷ next ∷ runs) a joined = (joined.0, joined_front (next ∷ runs) a joined.1)

-- the first choices of the runs that are left are those of the next run, as many as are wanted, and the first of the others
pub first_of_runs : (runs : List Run) (i left times : ℕ) (d : Run) → i < length runs → times ≡ min left (slice_index_or runs i d).times
    → take left (choices_of (drop i runs))
    ≡ replicate times (slice_index_or runs i d).choice ++ take (left - times) (choices_of (drop (i + 1) runs))
first_of_runs runs i left times d there is =
    ap (take left) (choices_of-drop runs i d there)
    ∙ take-run left (slice_index_or runs i d).times (slice_index_or runs i d).choice (choices_of (drop (i + 1) runs))
    ∙ ap (λ n. replicate n (slice_index_or runs i d).choice ++ take (left - n) (choices_of (drop (i + 1) runs))) (sym is)
