-- Runs that get one choice more.
use Rattle.std.proofs.Common.{◌≡◌, ◌∙◌, ◌+◌, ◌<◌, ◌≤◌, ℕ, zero, suc, List, [], ◌∷◌, ◌++◌, length, arith, sym, subst, append_assoc, All, replicate, slice_index_or, slice_set, append-nil}
use Rattle.std.proofs.lemmas.List.{Elements.All-append, Elements.All-cons, Elements.All-nil, replicate-append-replicate}
use Rattle.thread_machine.specs.declared.choice.Choice.{Choice}
use Rattle.schedule_reader.specs.{declared.run.Run.Run, Schedule.IsRun, Schedule.choices_of, Schedule.run_of, Joined.AreJoined}

once_more : (times : ℕ) (choice : Choice) → replicate (times + 1) choice ≡ replicate times choice ++ choice ∷ []
once_more times choice = sym (replicate-append-replicate times 1 choice)

-- the last run once more
pub again : (runs : List Run) (n : ℕ) (d : Run) (choice : Choice) → n + 1 ≡ length runs → (slice_index_or runs n d).choice ≡ choice
    → choices_of (slice_set runs n (run_of choice ((slice_index_or runs n d).times + 1))) ≡ choices_of runs ++ choice ∷ []
again [] n d choice last is = absurd (omega (arith, last))
again (run ∷ []) zero d choice last is = grind (arith, append-nil, once_more)
again (run ∷ []) (suc n) d choice last is = absurd (omega (arith, last))
again (run ∷ next ∷ runs) zero d choice last is = absurd (omega (arith, last))
again (run ∷ next ∷ runs) (suc n) d choice last is = grind (arith, append_assoc, again (next ∷ runs) n d choice (omega (arith, last)) is)

-- and the runs stay joined: a run has the choice that it had
joined_next : (run next : Run) (runs : List Run) (n : ℕ) (d more : Run) → more.choice ≡ (slice_index_or (next ∷ runs) n d).choice
    → (run.choice ≡ next.choice → run.times ≡ 1000000000) → AreJoined (slice_set (next ∷ runs) n more)
    → AreJoined (run ∷ slice_set (next ∷ runs) n more)
joined_next run next runs zero d more same apart rest = (λ e. apart (e ∙ same), rest)
joined_next run next runs (suc n) d more same apart rest = (apart, rest)

pub joined-again : (runs : List Run) (n : ℕ) (d more : Run) → n + 1 ≡ length runs → more.choice ≡ (slice_index_or runs n d).choice
    → AreJoined runs → AreJoined (slice_set runs n more)
joined-again (run ∷ []) zero d more last same joined = joined
joined-again (run ∷ next ∷ runs) (suc n) d more last same joined =
    joined_next run next runs n d more same joined.0 (joined-again (next ∷ runs) n d more (omega (arith, last)) same joined.1)
joined-again _ _ d more last same joined = absurd (omega (arith, last))

-- a run of its own
pub joined-own : (runs : List Run) (n : ℕ) (d more : Run) → n + 1 ≡ length runs
    → ((slice_index_or runs n d).choice ≡ more.choice → (slice_index_or runs n d).times ≡ 1000000000)
    → AreJoined runs → AreJoined (runs ++ more ∷ [])
joined-own (run ∷ []) zero d more last apart joined = (apart, joined)
joined-own (run ∷ next ∷ runs) (suc n) d more last apart joined =
    (joined.0, joined-own (next ∷ runs) n d more (omega (arith, last)) apart joined.1)
joined-own _ _ d more last apart joined = absurd (omega (arith, last))

-- a run that a token can spell
pub spelled : (choice : Choice) (times : ℕ) → choice.thread ≤ 63 → times < 1000000000 → IsRun (run_of choice (times + 1))
spelled choice times thread few = record { thread = thread; some = omega arith; few = omega (arith, few) }

-- the runs with one of its own behind them
pub spelled-own : (runs more : List Run) (choice : Choice) → choice.thread ≤ 63 → All IsRun runs → more ≡ runs ++ run_of choice 1 ∷ []
    → All IsRun more
spelled-own runs more choice thread are is =
    subst (All IsRun) (sym is)
    (All-append IsRun runs (run_of choice 1 ∷ []) are (All-cons IsRun (run_of choice 1) [] (spelled choice 0 thread (omega arith)) (All-nil IsRun)))

pub joined-first : (runs more : List Run) (run : Run) → length runs ≡ 0 → more ≡ runs ++ run ∷ [] → AreJoined more
joined-first [] more run none is = subst AreJoined (sym is) tt
joined-first (first ∷ runs) more run none is = absurd (omega (arith, none))
