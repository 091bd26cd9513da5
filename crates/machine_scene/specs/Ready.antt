-- Which turns are ready, and which timed waits can expire, listed by status and row. `who_is_ready` says that exactly these
-- have an outcome.
use Rattle.std.specs.Prelude.{ℕ, ℤ, pos, nat_abs, int_lt, Bool, true, false, not, ◌&&◌, ◌||◌, is_some, Option, Some, None}
use Rattle.instruction_table.specs.{declared.row.Row.Row, Registers.value_in}
use Rattle.instruction_table.specs.declared.row.Row.TheVariants.{Preg, Pbulk, Paaa, Pawait, Pawaiti, Pawaitt, Cawait, Cawaitt, Creset, Cbroken, Cwaiting}
use Rattle.tier_tree.specs.{declared.registered.Registered.Registered, Registration.registration}
use Rattle.tier_tree.specs.declared.registered.Registered.TheVariants as registered
use Rattle.cyclic_barrier.specs.{declared.answer.WaitState.WaitState, Waits.wait_at, Waits.is_waiting}
use Rattle.cyclic_barrier.specs.declared.answer.WaitState.TheVariants as state
use Rattle.thread_state.specs.declared.status.Status.{Status}
use Rattle.thread_state.specs.declared.status.Status.TheVariants as status
use Rattle.machine_scene.specs.{Scene.Scene, Scene.thread_at, Scene.barrier_at, PhaserRows.is_own_tree, PhaserRows.is_past}
use Rattle.machine_scene.specs.BarrierRows.{is_run_by_another}

-- a registration that waits for a phase's end
abbrev pub is_held : Registered → Bool
is_held (registered.At phase) = false
is_held (registered.Dead view) = false
is_held registered.Held = true
is_held registered.TooMany = false

-- a registration by thread t would be held; one that is refused before isn't held
abbrev pub registration_is_held : ℕ → ℤ → ℕ → Scene → Bool
registration_is_held p count t scene =
    not (is_own_tree p (thread_at scene t) scene) && (not (int_lt count (pos 0))
    && is_held (registration p (nat_abs count) scene.phasers))

-- rows that some threads have to wait at before they are played
abbrev pub may_be_blocked : Row → Bool
may_be_blocked (Preg into p) = true
may_be_blocked (Pbulk into p count) = true
may_be_blocked (Cawait into b) = true
may_be_blocked (Cawaitt into b time) = true
may_be_blocked (Creset b) = true
may_be_blocked (Cbroken into b) = true
may_be_blocked (Cwaiting into b) = true
may_be_blocked _ = false

-- the row of running thread t has to wait
abbrev pub is_blocked : Row → ℕ → Scene → Bool
is_blocked (Preg into p) t scene = registration_is_held p (pos 1) t scene
is_blocked (Pbulk into p count) t scene = registration_is_held p (value_in (thread_at scene t).registers count) t scene
is_blocked (Cawait into b) t scene = is_run_by_another t (barrier_at scene b).runner
is_blocked (Cawaitt into b time) t scene = is_run_by_another t (barrier_at scene b).runner
is_blocked (Creset b) t scene = is_run_by_another t (barrier_at scene b).runner
is_blocked (Cbroken into b) t scene = is_run_by_another t (barrier_at scene b).runner
is_blocked (Cwaiting into b) t scene = is_run_by_another t (barrier_at scene b).runner
is_blocked _ t scene = false

-- the wait for a phase is over, or is one that an interruption ends
abbrev pub is_awaited : Row → ℤ → ℕ → Scene → Bool
is_awaited (Paaa into p) phase t scene = is_past p phase scene
is_awaited (Pawait into p number) phase t scene = is_past p phase scene
is_awaited (Pawaiti into p number) phase t scene = is_past p phase scene || (thread_at scene t).interrupted
is_awaited (Pawaitt into p number time) phase t scene = is_past p phase scene || (thread_at scene t).interrupted
is_awaited _ phase t scene = false

-- a wait that was released
abbrev pub is_released : Option WaitState → Bool
is_released (Some state.Tripped) = true
is_released (Some state.Broken) = true
is_released (Some state.Waiting) = false
is_released None = false

-- the thread was released at this barrier, or it still waits there, is interrupted, and no thread runs the action
abbrev pub is_over_at : ℕ → ℕ → Scene → Bool
is_over_at b t scene =
    is_released (wait_at (barrier_at scene b).waits t)
    || (is_waiting (wait_at (barrier_at scene b).waits t)
    && ((thread_at scene t).interrupted && not (is_some (barrier_at scene b).runner)))

-- the wait at this row's barrier is over
abbrev pub is_over : Row → ℕ → Scene → Bool
is_over (Cawait into b) t scene = is_over_at b t scene
is_over (Cawaitt into b time) t scene = is_over_at b t scene
is_over _ t scene = false

-- the turns that are ready, by status and row
abbrev pub is_listed : Status → Row → ℕ → Scene → Bool
is_listed status.Runs row t scene = not (is_blocked row t scene)
is_listed (status.Throws code) row t scene = true
is_listed (status.AwaitsPhase phase) row t scene = is_awaited row phase t scene
is_listed (status.AwaitsBarrier index) row t scene = is_over row t scene
is_listed status.Ended row t scene = false
is_listed (status.Died code) row t scene = false

-- a wait at this row has a time; at a barrier it runs out only while no thread runs the action
abbrev pub is_timed_phase_wait : Row → Bool
is_timed_phase_wait (Pawaitt into p number time) = true
is_timed_phase_wait _ = false

abbrev pub is_timed_barrier_wait : Row → Scene → Bool
is_timed_barrier_wait (Cawaitt into b time) scene = not (is_some (barrier_at scene b).runner)
is_timed_barrier_wait _ scene = false

-- the timed waits that can expire, by status and row, of threads whose turn isn't ready
abbrev pub can_run_out : Status → Row → Scene → Bool
can_run_out status.Runs row scene = false
can_run_out (status.Throws code) row scene = false
can_run_out (status.AwaitsPhase phase) row scene = is_timed_phase_wait row
can_run_out (status.AwaitsBarrier index) row scene = is_timed_barrier_wait row scene
can_run_out status.Ended row scene = false
can_run_out (status.Died code) row scene = false
