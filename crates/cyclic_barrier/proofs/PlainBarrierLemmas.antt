use Rattle.std.proofs.Common.{◌≡◌, ℕ, ◌+◌, ◌≤◌, zero, suc, Bool, true, false, not, cond, ◌==◌, refl, sym, ◌∙◌, ap, arith, inl, inr, List, [], ◌∷◌, ◌++◌, length, Option, Some, None, slice_get, option_map, filter, count_by, All, nat_le, length-append, zero-add, le-leb, eq-eqb, ne_eqb}
use Rattle.std.proofs.lemmas.{Bool.lt-leb, Bool.cases_eq, Bool.Decides.nat_tests, List.Sums.sum_by-cons}
use Rattle.std.proofs.lemmas.List.Elements.{All-head, All-tail, All-weaker}
use Rattle.cyclic_barrier.specs.{declared.answer.WaitState.WaitState, Waits.is_at, Past.OneWaitEach, Past.HasBegun}
use Rattle.cyclic_barrier.specs.PlainBarrier.{Wait, End, state_after, state_of_wait, wait_of, is_unreleased}
use Rattle.cyclic_barrier.specs.declared.answer.WaitState.TheVariants as state
use Rattle.cyclic_barrier.specs.PlainBarrier as plain

-- what a wait's state becomes when the generation under way ends
abbrev pub ended_by : End → WaitState → WaitState
ended_by end state.Waiting = state_after (Some end)
ended_by end state.Tripped = state.Tripped
ended_by end state.Broken = state.Broken

ended : (earlier end : End) → state_after (Some earlier) ≡ ended_by end (state_after (Some earlier))
ended earlier end = elim earlier as (λ e. state_after (Some e) ≡ ended_by end (state_after (Some e))) [ plain.tripped ↦ refl | plain.broken ↦ refl ]

-- an end that is appended is that of the generation under way alone
state_after-append :
    (ends : List End) (end : End) (generation : ℕ) → generation ≤ length ends →
    state_after (slice_get (ends ++ end ∷ []) generation) ≡ ended_by end (state_after (slice_get ends generation))
state_after-append [] end zero within = refl
state_after-append [] end (suc g) within = absurd (omega arith)
state_after-append (x ∷ ends) end zero within = ended x end
state_after-append (x ∷ ends) end (suc g) within = state_after-append ends end g (omega arith)

-- an end behind the others ends a thread's wait too
pub state_of-end :
    (waits : List Wait) (ends : List End) (end : End) (thread : ℕ) → All (HasBegun ends) waits →
    option_map (state_of_wait (ends ++ end ∷ [])) (wait_of thread waits) ≡ option_map (ended_by end) (option_map (state_of_wait ends) (wait_of thread waits))
state_of-end [] ends end thread begun = refl
state_of-end (wait ∷ waits) ends end thread begun =
    grind (arith, state_after-append, All-head, All-tail, state_of-end waits ends end thread (All-tail (HasBegun ends) wait waits begun))

-- nobody waits any more once the generation has ended
pub none_waiting :
    (waits : List Wait) (ends : List End) (end : End) → All (HasBegun ends) waits →
    count_by (is_unreleased (ends ++ end ∷ [])) waits ≡ 0
none_waiting [] ends end begun = refl
none_waiting (wait ∷ waits) ends end begun =
    grind (arith, All-head, lt-leb, length-append, sum_by-cons, zero-add, All-tail, (none_waiting waits ends end (All-tail (HasBegun ends) wait waits begun)))

-- what has begun has begun for good
pub begun_still :
    (waits : List Wait) (ends : List End) (end : End) → All (HasBegun ends) waits →
    All (HasBegun (ends ++ end ∷ [])) waits
begun_still waits ends end begun = All-weaker (HasBegun ends) (HasBegun (ends ++ end ∷ [])) (λ w h. rw length-append (omega arith)) waits begun

le_suc : (a b : ℕ) → nat_le a b ≡ nat_le (suc a) (suc b)
le_suc a b = grind (arith, nat_tests)

-- a wait is unreleased where the test says so
waiting_test :
    (ends : List End) (generation : ℕ) →
    is_at state.Waiting (Some (state_after (slice_get ends generation))) ≡ nat_le (length ends) generation
waiting_test (x ∷ ends) (suc g) = waiting_test ends g ∙ le_suc (length ends) g
waiting_test ends g = grind (arith, le-leb, lt-leb, le_suc)

-- a wait that enters now is unreleased
pub waiting_now : (ends : List End) → state_after (slice_get ends (length ends)) ≡ state.Waiting
waiting_now [] = refl
waiting_now (x ∷ ends) = waiting_now ends

-- the waits of the other threads
abbrev pub others : ℕ → List Wait → List Wait
others thread waits = filter (λ wait. not (wait.thread == thread)) waits

none_either : (b : Bool) → None ≡ cond {A = Option Wait} b None None
none_either true = refl
none_either false = refl

-- the other threads' waits are as they were
pub wait_of-others :
    (waits : List Wait) (gone thread : ℕ) →
    wait_of thread (others gone waits) ≡ cond (gone == thread) None (wait_of thread waits)
wait_of-others [] gone thread = none_either (gone == thread)
wait_of-others (wait ∷ waits) gone thread = grind (arith, cases_eq, eq-eqb, ne_eqb, wait_of-others waits gone thread)

-- a thread without a wait leaves nothing
others_all : (waits : List Wait) (gone : ℕ) → wait_of gone waits ≡ None → others gone waits ≡ waits
others_all [] gone none = refl
others_all (wait ∷ waits) gone none =
    elim (wait.thread == gone) as (λ here. cond here (Some wait) (wait_of gone waits) ≡ None → cond (not here) (wait ∷ others gone waits) (others gone waits) ≡ wait ∷ waits) [
      | true ↦ λ absent. cc
      | false ↦ λ absent. ap (λ ws. wait ∷ ws) (others_all waits gone absent)
    ] none

-- a released wait was not counted
pub waiting-others :
    (waits : List Wait) (ends : List End) (gone : ℕ) → OneWaitEach waits →
    is_at state.Waiting (option_map (state_of_wait ends) (wait_of gone waits)) ≡ false →
    count_by (is_unreleased ends) (others gone waits) ≡ count_by (is_unreleased ends) waits
waiting-others [] ends gone one released = refl
waiting-others (wait ∷ waits) ends gone one released =
    elim (cases_eq wait.thread gone) as (λ _. count_by (is_unreleased ends) (others gone (wait ∷ waits)) ≡ count_by (is_unreleased ends) (wait ∷ waits)) [
      | inl e ↦
          let found : wait_of gone (wait ∷ waits) ≡ Some wait = rw (eq-eqb _ _ e) refl in
          let uncounted : is_unreleased ends wait ≡ false = sym (waiting_test ends wait.generation) ∙ (rw found at released) in
          let none : wait_of gone waits ≡ None = rw e at one.0 in
          rw (eq-eqb _ _ e, others_all waits gone none) (sym (sum_by-cons _ wait waits ∙ rw uncounted (zero-add _)))
      | inr n ↦
          let passed : wait_of gone (wait ∷ waits) ≡ wait_of gone waits = rw (ne_eqb _ _ n) refl in
          rw (ne_eqb _ _ n) (sum_by-cons _ wait (others gone waits) ∙ ap (λ k. cond (is_unreleased ends wait) 1 0 + k) (waiting-others waits ends gone one.1 (rw passed at released)) ∙ sym (sum_by-cons _ wait waits))
    ]

-- no thread has two waits where one has left
pub one_each-others :
    (waits : List Wait) (gone : ℕ) → OneWaitEach waits → OneWaitEach (others gone waits)
one_each-others [] gone one = one
one_each-others (wait ∷ waits) gone one = grind (arith, wait_of-others, none_either, one_each-others waits gone one.1)
