-- A barrier with its past, and what each call does to both.
use Rattle.std.specs.Prelude.{ℕ, ◌+◌, ◌-◌, Bool, true, false, not, ◌==◌, nat_le, List, [], ◌∷◌, ◌++◌, length, find, filter, count_by, Option, Some, None, slice_get, option_map, if◌then◌else◌}
use Rattle.cyclic_barrier.specs.declared.answer.{Entered.Entered, WaitState.WaitState}
use Rattle.cyclic_barrier.specs.declared.answer.Entered.TheVariants as entered
use Rattle.cyclic_barrier.specs.declared.answer.WaitState.TheVariants as state

-- how a generation ended
pub data End : Type 0 where
  tripped : End
  broken : End

-- a thread waits for the end of a generation, numbered from 0
pub record Wait : Type 0 where
  pub thread : ℕ
  pub generation : ℕ

-- a barrier with its whole past: how each finished generation ended, in order, and each wait that
-- its thread has not left yet. The runner is the thread that now runs the action
pub record PlainBarrier : Type 0 where
  pub parties : ℕ
  pub action : Bool
  pub ends : List End
  pub waits : List Wait
  pub broken : Bool
  pub runner : Option ℕ

-- a new barrier
abbrev pub fresh : ℕ → Bool → PlainBarrier
fresh parties action = record {
  parties = parties;
  action = action;
  ends = [];
  waits = [];
  broken = false;
  runner = None;
}

-- what a waiter finds: how its generation ended, if it has ended
abbrev pub state_after : Option End → WaitState
state_after None = state.Waiting
state_after (Some tripped) = state.Tripped
state_after (Some broken) = state.Broken

-- the state of the wait, by the ends so far: only the end of its own generation counts
abbrev pub state_of_wait : List End → Wait → WaitState
state_of_wait ends wait = state_after (slice_get ends wait.generation)

-- the thread's wait, if it has one
abbrev pub wait_of : ℕ → List Wait → Option Wait
wait_of thread waits = find (λ wait. wait.thread == thread) waits

-- the state of the thread's wait, if it has one
abbrev pub state_of : ℕ → PlainBarrier → Option WaitState
state_of thread b = option_map (state_of_wait b.ends) (wait_of thread b.waits)

-- the wait's generation has not ended
abbrev pub is_unreleased : List End → Wait → Bool
is_unreleased ends wait = nat_le (length ends) wait.generation

-- how many waits are unreleased
abbrev pub number_waiting : PlainBarrier → ℕ
number_waiting b = count_by (is_unreleased b.ends) b.waits

-- the generation ends
abbrev pub end_generation : End → PlainBarrier → PlainBarrier
end_generation end b = record b { ends = b.ends ++ end ∷ [] }

-- the generation ends as broken, and the barrier stays broken
abbrev pub break : PlainBarrier → PlainBarrier
break b = record (end_generation broken b) { broken = true }

-- the barrier after an entry, and the entry's result
pub record Entry : Type 0 where
  pub barrier : PlainBarrier
  pub answer : Entered

-- the thread waits for the end of this generation
abbrev pub add_wait : ℕ → PlainBarrier → Entry
add_wait thread b =
    let index = b.parties - 1 - number_waiting b in
    let wait : Wait = record { thread = thread; generation = length b.ends } in
    record { barrier = record b { waits = wait ∷ b.waits }; answer = entered.Wait index }

-- the last thread to arrive runs the action, or ends the generation if there is none
abbrev pub arrive_last : ℕ → PlainBarrier → Entry
arrive_last thread b =
    if b.action
    then record { barrier = record b { runner = Some thread }; answer = entered.Run }
    else record { barrier = end_generation tripped b; answer = entered.Tripped }

-- a thread arrives while no thread runs the action
abbrev pub arrive : ℕ → Bool → Bool → PlainBarrier → Entry
arrive thread interrupted no_wait b =
    if b.broken then record { barrier = b; answer = entered.Broken }
    else (if interrupted then record { barrier = break b; answer = entered.Interrupted }
    else (if number_waiting b + 1 == b.parties then arrive_last thread b
    else (if no_wait then record { barrier = break b; answer = entered.TimedOut }
    else add_wait thread b)))

-- the runner of an action is asked about first
abbrev pub enter_beside : Option ℕ → ℕ → Bool → Bool → PlainBarrier → Entry
enter_beside None thread interrupted no_wait b = arrive thread interrupted no_wait b
enter_beside (Some runner) thread interrupted no_wait b =
    record { barrier = b; answer = if runner == thread then entered.Own else entered.Busy }

-- a thread calls await with a time; no_wait says that none is left. interrupted is its interrupted
-- status
abbrev pub enter_timed : ℕ → Bool → Bool → PlainBarrier → Entry
enter_timed thread interrupted no_wait b = enter_beside b.runner thread interrupted no_wait b

-- a thread calls await
abbrev pub enter : ℕ → Bool → PlainBarrier → Entry
enter thread interrupted b = enter_timed thread interrupted false b

-- the action returned, or threw
abbrev pub end_action : Bool → PlainBarrier → PlainBarrier
end_action returned b =
    let rested = record b { runner = None } in
    if returned then end_generation tripped rested else break rested

-- the thread's wait is over
abbrev pub leave : ℕ → PlainBarrier → PlainBarrier
leave thread b = record b { waits = filter (λ wait. not (wait.thread == thread)) b.waits }

-- the thread is interrupted while it waits
abbrev pub interrupt : ℕ → PlainBarrier → PlainBarrier
interrupt thread b = leave thread (break b)

-- the thread's time is over while it waits
abbrev pub expire : ℕ → PlainBarrier → PlainBarrier
expire thread b = interrupt thread b

-- the initial state again: a generation that some thread waits for ends as broken
abbrev pub reset : PlainBarrier → PlainBarrier
reset b = record (if 0 == number_waiting b then b else end_generation broken b) { broken = false }
