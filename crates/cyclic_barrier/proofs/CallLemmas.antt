-- What the calls change, for the crates above: who has a wait, who runs the action, and how many
-- threads are listed.
use Rattle.std.proofs.Common.{◌≡◌, ℕ, ◌+◌, ◌<◌, Bool, true, false, not, cond, ◌||◌, ◌&&◌, ◌==◌, refl, ◌∙◌, ap, length, Option, Some, None, is_some, length-set, arith, rules}
use Rattle.std.proofs.lemmas.List.{length-map}
use Rattle.cyclic_barrier.specs.{declared.answer.WaitState.WaitState, Waits.wait_at, Waits.released, Waits.release}
use Rattle.cyclic_barrier.specs.Barrier.{BarrierState, IsBarrier, Entry, number_waiting, has_wait, is_wait, runner_after, arrive, enter_timed, end_action, leave, interrupt, reset}
use Rattle.cyclic_barrier.specs.WhoWaits.{TellsWhoWaits}
use Rattle.cyclic_barrier.specs.declared.answer.WaitState.TheVariants as state
use Rattle.cyclic_barrier.proofs.WaitsLemmas.{wait_at-release, wait_at-set, or_false}

either : {A : Type 0} (P : A → Type 0) (test : Bool) {a b : A} → P a → P b → P (cond test a b)
either P true p q = p
either P false p q = q

released_some : (s : WaitState) (wait : Option WaitState) → is_some (released s wait) ≡ is_some wait
released_some s wait = grind arith

-- a release keeps all waits
pub has_wait-release :
    (s : WaitState) (b : BarrierState) (flag : Bool) (u : ℕ) →
    has_wait u (record b { waits = release s b.waits; broken = flag }) ≡ has_wait u b
has_wait-release s b flag u = ap is_some (wait_at-release s b.waits u) ∙ released_some s (wait_at b.waits u)

added : (here : Bool) (wait : Option WaitState) → is_some (cond here (Some state.Waiting) wait) ≡ (is_some wait || here)
added true None = refl
added true (Some w) = refl
added false None = refl
added false (Some w) = refl

-- who has a wait after an entry: those of before, and the thread where the answer says so
pub has_wait-enter :
    (thread : ℕ) (interrupted no_wait : Bool) (b : BarrierState) (u : ℕ) → thread < length b.waits →
    has_wait u (enter_timed thread interrupted no_wait b).barrier
    ≡ (has_wait u b || (is_wait (enter_timed thread interrupted no_wait b).answer && (thread == u)))
has_wait-enter thread interrupted no_wait b u there =
    let P : Entry → Type 0 = λ e. has_wait u e.barrier ≡ (has_wait u b || (is_wait e.answer && (thread == u))) in
    let arrived : P (arrive thread interrupted no_wait b) =
    either P b.broken (or_false _)
    (either P interrupted (has_wait-release state.Broken b true u ∙ or_false _)
    (either P (number_waiting b + 1 == b.parties) (either P b.action (or_false _) (has_wait-release state.Tripped b b.broken u ∙ or_false _))
    (either P no_wait (has_wait-release state.Broken b true u ∙ or_false _)
    (ap is_some (wait_at-set b.waits thread u (Some state.Waiting) there) ∙ added (thread == u) (wait_at b.waits u))))) in
    grind (arith, or_false)

record RunsAfter (thread : ℕ) (earlier : Option ℕ) (e : Entry) : Type 0 where
  pub runner : e.barrier.runner ≡ runner_after thread e.answer earlier

-- who runs the action after an entry
pub runner-enter :
    (thread : ℕ) (interrupted no_wait : Bool) (b : BarrierState) →
    (enter_timed thread interrupted no_wait b).barrier.runner ≡ runner_after thread (enter_timed thread interrupted no_wait b).answer b.runner
runner-enter thread interrupted no_wait b = grind arith

pub has_wait-leave :
    (thread : ℕ) (b : BarrierState) (u : ℕ) → thread < length b.waits → has_wait u (leave thread b) ≡ (has_wait u b && not (thread == u))
has_wait-leave thread b u there = grind (arith, wait_at-set)

pub has_wait-interrupt :
    (thread : ℕ) (b : BarrierState) (u : ℕ) → thread < length b.waits → has_wait u (interrupt thread b) ≡ (has_wait u b && not (thread == u))
has_wait-interrupt thread b u there = search (rules, has_wait-leave, length-map, has_wait-release)

pub has_wait-end_action : (returned : Bool) (b : BarrierState) (u : ℕ) → has_wait u (end_action returned b) ≡ has_wait u b
has_wait-end_action returned b u =
    let rested : BarrierState = record b { runner = None } in
    either (λ (after : BarrierState). has_wait u after ≡ has_wait u b) returned (has_wait-release state.Tripped rested b.broken u) (has_wait-release state.Broken rested true u)

pub has_wait-reset : (b : BarrierState) (u : ℕ) → has_wait u (reset b) ≡ has_wait u b
has_wait-reset b u = has_wait-release state.Broken b false u

-- as many threads as before are listed
pub length-enter :
    (thread : ℕ) (interrupted no_wait : Bool) (b : BarrierState) →
    length (enter_timed thread interrupted no_wait b).barrier.waits ≡ length b.waits
length-enter thread interrupted no_wait b = grind (arith, length-set, length-map)

pub length-end_action : (returned : Bool) (b : BarrierState) → length (end_action returned b).waits ≡ length b.waits
length-end_action returned b = grind (arith, length-map)
