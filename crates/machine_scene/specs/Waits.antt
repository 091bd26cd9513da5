-- Threads that wait, and how their waits end.
use Rattle.std.specs.Prelude.{ℕ, ℤ, pos, ◌&&◌, not, is_some, Bool, true, false, if◌then◌else◌, Option, Some, None}
use Rattle.instruction_table.specs.declared.{row.Row.Row, register.Reg.Reg}
use Rattle.instruction_table.specs.declared.row.Row.TheVariants.{Paaa, Pawait, Pawaiti, Pawaitt, Cawait, Cawaitt}
use Rattle.cyclic_barrier.specs.{declared.answer.WaitState.WaitState, Waits.wait_at}
use Rattle.cyclic_barrier.specs.Barrier.{leave, interrupt, expire}
use Rattle.cyclic_barrier.specs.declared.answer.WaitState.TheVariants as state
use Rattle.packed_phaser.specs.Flat.{view_of}
use Rattle.tier_tree.specs.Forest.{flat_at}
use Rattle.thread_state.specs.declared.event.Mark.TheVariants as mark
use Rattle.thread_state.specs.Thread.{turn_of_answer, turn_of_throw, turn_of_interruption}
use Rattle.machine_scene.specs.Scene.{Scene, Outcome, thread_at, barrier_at, with_barrier, outcome_of_turn, outcome_marked, alone}
use Rattle.machine_scene.specs.PhaserRows.{is_past}

-- the result is the view that this step finds
abbrev pub outcome_of_view : Reg → ℕ → ℕ → Scene → Outcome
outcome_of_view into p t scene = alone (turn_of_answer into (view_of (flat_at scene.phasers p))) t scene

-- the wait of thread t for the end of this phase: the end counts before an interrupt, which ends a wait that can be interrupted
abbrev pub outcome_of_awaited : Bool → Reg → ℕ → ℤ → ℕ → Scene → Option Outcome
outcome_of_awaited looks into p phase t scene =
    if is_past p phase scene then Some (outcome_of_view into p t scene)
    else (if looks && (thread_at scene t).interrupted
    then Some (outcome_of_turn (turn_of_interruption (thread_at scene t)) t scene)
    else None)

-- the wait at the row; at any other row no thread awaits a phase
abbrev pub outcome_of_phase_wait : Row → ℤ → ℕ → Scene → Option Outcome
outcome_of_phase_wait (Paaa into p) phase t scene = outcome_of_awaited false into p phase t scene
outcome_of_phase_wait (Pawait into p number) phase t scene = outcome_of_awaited false into p phase t scene
outcome_of_phase_wait (Pawaiti into p number) phase t scene = outcome_of_awaited true into p phase t scene
outcome_of_phase_wait (Pawaitt into p number time) phase t scene = outcome_of_awaited true into p phase t scene
outcome_of_phase_wait _ phase t scene = None

-- the wait of thread t at barrier b, by its state: a released thread takes its outcome first; an interrupt before the release
-- breaks the barrier, but not while a thread runs the action
abbrev pub outcome_of_release : Option WaitState → Reg → ℤ → ℕ → ℕ → Scene → Option Outcome
outcome_of_release (Some state.Tripped) into index b t scene =
    Some (outcome_of_turn (turn_of_answer into index (thread_at scene t)) t (with_barrier (leave t (barrier_at scene b)) b scene))
outcome_of_release (Some state.Broken) into index b t scene =
    Some (outcome_of_turn (turn_of_throw (pos 4) (thread_at scene t)) t (with_barrier (leave t (barrier_at scene b)) b scene))
outcome_of_release (Some state.Waiting) into index b t scene =
    if (thread_at scene t).interrupted && not (is_some (barrier_at scene b).runner)
    then Some (outcome_marked (mark.Broke b) (turn_of_interruption (thread_at scene t)) t
    (with_barrier (interrupt t (barrier_at scene b)) b scene))
    else None
outcome_of_release None into index b t scene = None

-- the wait at the row's barrier; at any other row no thread waits at a barrier
abbrev pub outcome_of_barrier_wait : Row → ℤ → ℕ → Scene → Option Outcome
outcome_of_barrier_wait (Cawait into b) index t scene =
    outcome_of_release (wait_at (barrier_at scene b).waits t) into index b t scene
outcome_of_barrier_wait (Cawaitt into b time) index t scene =
    outcome_of_release (wait_at (barrier_at scene b).waits t) into index b t scene
outcome_of_barrier_wait _ index t scene = None

-- the time of thread t's wait for a phase runs out: exception 5
abbrev pub outcome_of_phase_timeout : Row → ℕ → Scene → Option Outcome
outcome_of_phase_timeout (Pawaitt into p number time) t scene = Some (alone (turn_of_throw (pos 5)) t scene)
outcome_of_phase_timeout _ t scene = None

-- the time of thread t's wait at a barrier runs out: exception 5, and the barrier breaks; not while a thread runs the
-- action
abbrev pub outcome_of_barrier_timeout : Row → ℕ → Scene → Option Outcome
outcome_of_barrier_timeout (Cawaitt into b time) t scene =
    if is_some (barrier_at scene b).runner then None
    else Some (outcome_marked (mark.Broke b) (turn_of_throw (pos 5) (thread_at scene t)) t
    (with_barrier (expire t (barrier_at scene b)) b scene))
outcome_of_barrier_timeout _ t scene = None
