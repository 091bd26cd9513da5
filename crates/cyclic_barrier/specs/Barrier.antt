-- A barrier as a plain value, and what each call does to it.
use Rattle.std.specs.Prelude.{◌≡◌, ℕ, ◌+◌, ◌-◌, ◌<◌, ◌==◌, Bool, true, false, if◌then◌else◌, List, length, count_by, replicate, slice_set, IsSome, Option, Some, None, is_some}
use Rattle.cyclic_barrier.specs.declared.answer.{Entered.Entered, WaitState.WaitState}
use Rattle.cyclic_barrier.specs.Waits.{wait_at, is_waiting, release}
use Rattle.cyclic_barrier.specs.declared.answer.Entered.TheVariants as entered
use Rattle.cyclic_barrier.specs.declared.answer.WaitState.TheVariants as state

-- a barrier as it is now: the thread that runs the action, if one does, and for each of 64 threads the state of its wait here,
-- if it has one
pub record BarrierState : Type 0 where
  pub parties : ℕ
  pub action : Bool
  pub broken : Bool
  pub runner : Option ℕ
  pub waits : List (Option WaitState)

-- how many threads wait, unreleased; the runner is not among them
abbrev pub number_waiting : BarrierState → ℕ
number_waiting b = count_by is_waiting b.waits

-- the thread has a wait here, released or not
abbrev pub has_wait : ℕ → BarrierState → Bool
has_wait thread b = is_some (wait_at b.waits thread)

-- the entry began a wait
abbrev pub is_wait : Entered → Bool
is_wait (entered.Wait index) = true
is_wait _ = false

-- the runner after an entry of the thread
abbrev pub runner_after : ℕ → Entered → Option ℕ → Option ℕ
runner_after thread entered.Run earlier = Some thread
runner_after thread _ earlier = earlier

-- what is true of every barrier
pub record IsBarrier (b : BarrierState) : Type 0 where
  pub threads : length b.waits ≡ 64
  pub below : number_waiting b < b.parties
  pub idle : b.broken ≡ true → number_waiting b ≡ 0
  pub full : IsSome b.runner → number_waiting b + 1 ≡ b.parties
  pub runs : IsSome b.runner → b.action ≡ true
  pub whole : IsSome b.runner → b.broken ≡ false

-- a new barrier
abbrev pub fresh : ℕ → Bool → BarrierState
fresh parties action =
    let waits = replicate 64 None in
    record { parties = parties; action = action; broken = false; runner = None; waits = waits }

-- the barrier trips
abbrev pub trip : BarrierState → BarrierState
trip b = record b { waits = release state.Tripped b.waits }

-- the barrier breaks
abbrev pub break : BarrierState → BarrierState
break b = record b { waits = release state.Broken b.waits; broken = true }

-- the barrier after an entry, and the entry's result
pub record Entry : Type 0 where
  pub barrier : BarrierState
  pub answer : Entered

-- the thread waits; the index counts down from parties - 1 to 1
abbrev pub add_wait : ℕ → BarrierState → Entry
add_wait thread b = record {
  barrier = record b { waits = slice_set b.waits thread (Some state.Waiting) };
  answer = entered.Wait (b.parties - 1 - number_waiting b);
}

-- the last thread to arrive runs the action, or trips the barrier if there is none
abbrev pub arrive_last : ℕ → BarrierState → Entry
arrive_last thread b =
    if b.action
    then record { barrier = record b { runner = Some thread }; answer = entered.Run }
    else record { barrier = trip b; answer = entered.Tripped }

-- a thread arrives while no thread runs the action
abbrev pub arrive : ℕ → Bool → Bool → BarrierState → Entry
arrive thread interrupted no_wait b =
    if b.broken then record { barrier = b; answer = entered.Broken }
    else (if interrupted then record { barrier = break b; answer = entered.Interrupted }
    else (if number_waiting b + 1 == b.parties then arrive_last thread b
    else (if no_wait then record { barrier = break b; answer = entered.TimedOut }
    else add_wait thread b)))

-- the runner of an action is asked about first
abbrev pub enter_beside : Option ℕ → ℕ → Bool → Bool → BarrierState → Entry
enter_beside None thread interrupted no_wait b = arrive thread interrupted no_wait b
enter_beside (Some runner) thread interrupted no_wait b =
    record { barrier = b; answer = if runner == thread then entered.Own else entered.Busy }

-- a thread calls await with a time; no_wait says that none is left. interrupted is its interrupted
-- status
abbrev pub enter_timed : ℕ → Bool → Bool → BarrierState → Entry
enter_timed thread interrupted no_wait b = enter_beside b.runner thread interrupted no_wait b

-- a thread calls await
abbrev pub enter : ℕ → Bool → BarrierState → Entry
enter thread interrupted b = enter_timed thread interrupted false b

-- the action returned, or threw
abbrev pub end_action : Bool → BarrierState → BarrierState
end_action returned b =
    let rested = record b { runner = None } in if returned then trip rested else break rested

-- the thread's wait is over
abbrev pub leave : ℕ → BarrierState → BarrierState
leave thread b = record b { waits = slice_set b.waits thread None }

-- the thread is interrupted while it waits
abbrev pub interrupt : ℕ → BarrierState → BarrierState
interrupt thread b = leave thread (break b)

-- the thread's time is over while it waits
abbrev pub expire : ℕ → BarrierState → BarrierState
expire thread b = interrupt thread b

-- the initial state again: who waits is released as by a breakage
abbrev pub reset : BarrierState → BarrierState
reset b = record b { waits = release state.Broken b.waits; broken = false }
