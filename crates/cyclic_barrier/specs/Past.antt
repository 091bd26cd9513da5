-- What it means that a barrier has a past, and that each call changes the barrier and its past in the same way.
use Rattle.std.specs.Prelude.{◌≡◌, ◌≢◌, ℕ, ◌<◌, ◌≤◌, Bool, Some, None, All, List, [], ◌∷◌, length}
use Rattle.cyclic_barrier.specs.declared.answer.WaitState.TheVariants as state
use Rattle.cyclic_barrier.specs.Waits.{wait_at}
use Rattle.cyclic_barrier.specs.PlainBarrier.{PlainBarrier, Wait, End, wait_of, state_of, number_waiting as number_waiting_of}
use Rattle.cyclic_barrier.specs.Barrier.{BarrierState, Entry, number_waiting, enter_timed, end_action, leave, interrupt, expire, reset}
use Rattle.cyclic_barrier.specs.PlainBarrier as plain

-- no thread has two waits
abbrev pub OneWaitEach : List Wait → Type 0
OneWaitEach [] = Unit {0}
OneWaitEach (wait ∷ waits) = (wait_of wait.thread waits ≡ None) × OneWaitEach waits

-- the wait is for a generation that has begun
abbrev pub HasBegun : List End → Wait → Type 0
HasBegun ends wait = wait.generation ≤ length ends

-- the plain barrier, with its past, is now this one
pub record IsStateAfter (b : BarrierState) (past : PlainBarrier) : Type 0 where
  pub parties : past.parties ≡ b.parties
  pub action : past.action ≡ b.action
  pub broken : past.broken ≡ b.broken
  pub runner : past.runner ≡ b.runner
  pub number_waiting : number_waiting_of past ≡ number_waiting b
  pub waits : (thread : ℕ) → state_of thread past ≡ wait_at b.waits thread
  pub begun : All (HasBegun past.ends) past.waits
  pub one_each : OneWaitEach past.waits

-- there is a past that leads to this barrier
abbrev pub HasPast : BarrierState → Type 0
HasPast b = (past : PlainBarrier) × IsStateAfter b past

-- the call turns each past that leads to one barrier into a past that leads to the other
abbrev pub Becomes : (PlainBarrier → PlainBarrier) → BarrierState → BarrierState → Type 0
Becomes call before after =
    (past : PlainBarrier) → IsStateAfter before past → IsStateAfter after (call past)

-- the result is the same for each past that leads to the barrier
abbrev pub Answers : {A : Type 0} → (PlainBarrier → A) → BarrierState → A → Type 0
Answers call b answer = (past : PlainBarrier) → IsStateAfter b past → call past ≡ answer

-- an entry leaves the same barrier, and has the same result, with the past as without it
pub record Agrees (entry : Entry) (with_past : plain.Entry) : Type 0 where
  pub barrier : IsStateAfter entry.barrier with_past.barrier
  pub answer : with_past.answer ≡ entry.answer

-- each call at this barrier is that call at each past that leads to it
pub record FollowsPast (b : BarrierState) : Type 0 where
  pub look : (thread : ℕ) → Answers (state_of thread) b (wait_at b.waits thread)
  pub enter : (thread : ℕ) (interrupted no_wait : Bool) →
      thread < 64 → wait_at b.waits thread ≡ None →
      (past : PlainBarrier) → IsStateAfter b past →
      Agrees (enter_timed thread interrupted no_wait b)
      (plain.enter_timed thread interrupted no_wait past)
  pub end_action : (returned : Bool) →
      Becomes (plain.end_action returned) b (end_action returned b)
  pub leave : (thread : ℕ) → thread < 64 → wait_at b.waits thread ≢ Some state.Waiting →
      Becomes (plain.leave thread) b (leave thread b)
  pub interrupt : (thread : ℕ) → thread < 64 →
      Becomes (plain.interrupt thread) b (interrupt thread b)
  pub expire : (thread : ℕ) → thread < 64 → Becomes (plain.expire thread) b (expire thread b)
  pub reset : Becomes plain.reset b (reset b)
