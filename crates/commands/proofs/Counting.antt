-- What one run more makes of the outcomes.
use Rattle.std.proofs.Common.{◌≡◌, ◌+◌, ◌≤◌, ◌<◌, ℕ, List, [], ◌∷◌, ◌++◌, Option, Some, None, length, refl, ap, arith, IfSome, IsSome, bytes_eq, cond, filter, is_some, option_map, le-ltb, ltb-false, ltb-true, length-append}
use Rattle.std.proofs.lemmas.{List.Elements.filter-append, Slice.Eq.bytes_eq-Decides}
use Rattle.std.specs.{List.IsDistinct, Cmp.IsStrictWeakOrder}
use Rattle.commands.specs.declared.{end_state.EndState.EndState, outcomes.Outcome.Outcome}
use Rattle.commands.specs.Outcomes.{AreOutcomes, Ended, Reported, ends_in, is_more_frequent, is_state, reported, reported_in, reported_of}

-- what is reported with one run more
abbrev pub and_run : Option Reported → Ended → Reported
and_run None run = record { times = 1; ending = run.ending; seed = run.seed; schedule = run.schedule }
and_run (Some before) run =
    record { times = before.times + 1; ending = before.ending; seed = before.seed; schedule = before.schedule }

-- which state a run ended in may be asked either way round
asked : (a b : List ℕ) → bytes_eq a b ≡ bytes_eq b a
asked a b = grind (arith, bytes_eq-Decides)

-- the outcomes with one run more
pub grown : (runs : List Ended) (run : Ended) (old new : EndState → Option Outcome) (key : EndState) (w : Outcome)
    → ((state : EndState) → option_map reported (old state) ≡ reported_in runs state.text.items)
    → ((state : EndState) → new state ≡ cond (is_state key state) (Some w) (old state))
    → run.state ≡ key.text.items → reported w ≡ and_run (reported_in runs key.text.items) run
    → (state : EndState) → option_map reported (new state) ≡ reported_in (runs ++ run ∷ []) state.text.items
grown runs run old new key w before is at now state = grind (arith, bytes_eq-Decides, filter-append, length-append, asked)

-- no more runs ended in a state than there are
few-of : (runs : List Ended) (state : List ℕ) → length (filter (ends_in state) runs) ≤ length runs
few-of [] state = omega arith
few-of (run ∷ runs) state = grind (arith, few-of runs state)

abbrev times_in : Option Reported → ℕ
times_in None = 0
times_in (Some t) = t.times

counted : (runs : List Ended) → times_in (reported_of runs) ≡ length runs
counted runs = grind arith

pub few : (runs : List Ended) (outcome : Option Outcome) (state : List ℕ) → option_map reported outcome ≡ reported_in runs state
    → length runs ≤ 100000 → IfSome outcome (λ o. o.times < 4294967295)
few runs None state is bound = tt
few runs (Some o) state is bound =
    let times : o.times ≡ times_in (reported_in runs state) = ap times_in is in
    let count : times_in (reported_in runs state) ≡ length (filter (ends_in state) runs) = counted (filter (ends_in state) runs) in
    let within = few-of runs state in
    omega (arith, times, count, within, bound)

-- the order by which the most frequent come first
pub more_frequent_is_an_order : IsStrictWeakOrder is_more_frequent
more_frequent_is_an_order = grind (arith, le-ltb, ltb-true, ltb-false)

-- no run came to nothing
pub nothing : AreOutcomes [] []
unfolding IsDistinct
nothing = (tt, λ state. refl)

pub some-there : {A : Type 0} (o : Option A) (x : A) → o ≡ Some x → IsSome o
some-there o x is = ap is_some is
