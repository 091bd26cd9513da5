-- The outcome of a thread's turn, and of the expiry of its timed wait. There is none if it isn't ready.
use Rattle.std.specs.Prelude.{ℕ, Bool, is_some, Option, Some, None, if◌then◌else◌}
use Rattle.instruction_table.specs.{declared.row.Row.Row, declared.group.Group.Group, Group.group_of}
use Rattle.instruction_table.specs.declared.group.Group.TheVariants.{Own, Calls, Data, Phasers, Getters, Barriers}
use Rattle.loader.specs.Program.{Program, row_at}
use Rattle.thread_state.specs.declared.status.Status.{Status}
use Rattle.thread_state.specs.declared.status.Status.TheVariants as status
use Rattle.machine_scene.specs.{Scene.Scene, Scene.Outcome, Scene.thread_at, OwnRows.outcome_of_own_row}
use Rattle.machine_scene.specs.{CallRows.outcome_of_call_row, DataRows.outcome_of_data_row, PhaserRows.outcome_of_phaser_row}
use Rattle.machine_scene.specs.{GetterRows.outcome_of_getter_row, BarrierRows.outcome_of_barrier_row, Unwinding.outcome_of_pop}
use Rattle.machine_scene.specs.Waits.{outcome_of_phase_wait, outcome_of_barrier_wait, outcome_of_phase_timeout, outcome_of_barrier_timeout}

-- the row of a running thread, by its group
abbrev pub outcome_in_group : Group → Row → ℕ → Program → Scene → Option Outcome
outcome_in_group Own row t program scene = outcome_of_own_row row t scene
outcome_in_group Calls row t program scene = outcome_of_call_row row t program scene
outcome_in_group Data row t program scene = outcome_of_data_row row t scene
outcome_in_group Phasers row t program scene = outcome_of_phaser_row row t program scene
outcome_in_group Getters row t program scene = outcome_of_getter_row row t scene
outcome_in_group Barriers row t program scene = outcome_of_barrier_row row t program scene

abbrev pub outcome_of_row : Row → ℕ → Program → Scene → Option Outcome
outcome_of_row row t program scene = outcome_in_group (group_of row) row t program scene

-- by the thread's status: its row, one pop while it throws, or its finished wait; one that has ended or died has no turn
-- any more
abbrev pub outcome_in : Status → Row → ℕ → Program → Scene → Option Outcome
outcome_in status.Runs row t program scene = outcome_of_row row t program scene
outcome_in (status.Throws code) row t program scene = Some (outcome_of_pop code t scene)
outcome_in (status.AwaitsPhase phase) row t program scene = outcome_of_phase_wait row phase t scene
outcome_in (status.AwaitsBarrier index) row t program scene = outcome_of_barrier_wait row index t scene
outcome_in _ row t program scene = None

-- the turn of thread t
abbrev pub outcome_of : ℕ → Program → Scene → Option Outcome
outcome_of t program scene =
    outcome_in (thread_at scene t).status (row_at program.rows (thread_at scene t).pc) t program scene

-- thread t is ready: its turn has an outcome
abbrev pub is_ready : ℕ → Program → Scene → Bool
is_ready t program scene = is_some (outcome_of t program scene)

-- the time of a wait runs out, by the thread's status
abbrev pub timeout_in : Status → Row → ℕ → Scene → Option Outcome
timeout_in (status.AwaitsPhase phase) row t scene = outcome_of_phase_timeout row t scene
timeout_in (status.AwaitsBarrier index) row t scene = outcome_of_barrier_timeout row t scene
timeout_in _ row t scene = None

-- the expiry of thread t's wait; it has no outcome if the thread's turn has one
abbrev pub outcome_of_expiry : ℕ → Program → Scene → Option Outcome
outcome_of_expiry t program scene =
    if is_ready t program scene then None
    else timeout_in (thread_at scene t).status (row_at program.rows (thread_at scene t).pc) t scene
