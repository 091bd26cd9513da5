-- Calls, handlers, thrown exceptions, and the way back out of a call, an advance routine or an action.
use Rattle.std.specs.Prelude.{ℕ, pos, not, Bool, false, true, if◌then◌else◌, Option, Some, None}
use Rattle.std.specs.Ordering.{int_eq}
use Rattle.instruction_table.specs.{declared.row.Row.Row, declared.register.Reg.TheVariants.R0, Registers.value_in}
use Rattle.instruction_table.specs.declared.row.Row.TheVariants.{Call, Ret, Try, Endtry, Throw}
use Rattle.packed_phaser.specs.Flat.{Flat, view_of}
use Rattle.tier_tree.specs.Forest.{flat_at}
use Rattle.cyclic_barrier.specs.Barrier.{end_action}
use Rattle.loader.specs.Program.{Program, row_at}
use Rattle.thread_state.specs.declared.event.Mark.TheVariants as mark
use Rattle.thread_state.specs.declared.frame.Frame.{Frame}
use Rattle.thread_state.specs.Thread.{ThreadState, turn_of_throw, turn_of_answer, turn_of_call, turn_of_try, turn_of_endtry, turn_of_return, top_of, left_routine}
use Rattle.thread_state.specs.declared.frame.Frame.TheVariants as frame
use Rattle.machine_scene.specs.{declared.manner.Manner.Manner, Manner.manner_of, PhaserRows.outcome_of_phase_end}
use Rattle.machine_scene.specs.Scene.{Scene, Outcome, thread_at, barrier_at, with_thread, with_barrier, outcome_of_turn, outcome_marked, alone}

-- a routine has returned, and its thread is back at the arrival: the phase ends, or no phase ends since the tree was terminated
-- meanwhile
abbrev pub outcome_of_routine_end : Bool → Manner → ℕ → Bool → ℕ → Scene → Outcome
outcome_of_routine_end true manner root terminates t scene =
    let flat : Flat = flat_at scene.phasers root in
    outcome_of_turn
    (turn_of_answer manner.into (if manner.waits then view_of flat else pos flat.phase) (thread_at scene t)) t scene
outcome_of_routine_end false manner root terminates t scene =
    outcome_of_phase_end manner root (pos (flat_at scene.phasers root).phase) terminates t scene

-- an action has returned, and its thread is back at its arrival: the barrier trips
abbrev pub outcome_of_action_end : Manner → ℕ → ℕ → Scene → Outcome
outcome_of_action_end manner b t scene =
    outcome_marked (mark.Tripped b) (turn_of_answer manner.into (pos 0) (thread_at scene t)) t
    (with_barrier (end_action true (barrier_at scene b)) b scene)

-- `ret`, by the top entry. The first register is a routine's result: any number but 0 terminates. If the top entry isn't that
-- of a call, a routine or an action, it is exception 7
abbrev pub outcome_of_ret : Option Frame → ℕ → Program → Scene → Outcome
outcome_of_ret None t program scene = alone (turn_of_throw (pos 7)) t scene
outcome_of_ret (Some (frame.Call row)) t program scene = alone (turn_of_return row) t scene
outcome_of_ret (Some (frame.Handler row)) t program scene = alone (turn_of_throw (pos 7)) t scene
outcome_of_ret (Some (frame.Advance root registers row)) t program scene =
    let thread : ThreadState = thread_at scene t in
    outcome_of_routine_end (flat_at scene.phasers root).ended (manner_of (row_at program.rows row)) root
    (not (int_eq (value_in thread.registers R0) (pos 0))) t (with_thread (left_routine registers row thread) t scene)
outcome_of_ret (Some (frame.Action b registers row)) t program scene =
    outcome_of_action_end (manner_of (row_at program.rows row)) b t
    (with_thread (left_routine registers row (thread_at scene t)) t scene)

-- what such a row does; a row of another group has no outcome here
abbrev pub outcome_of_call_row : Row → ℕ → Program → Scene → Option Outcome
outcome_of_call_row (Call target) t program scene = Some (alone (turn_of_call target) t scene)
outcome_of_call_row Ret t program scene = Some (outcome_of_ret (top_of (thread_at scene t).stack) t program scene)
outcome_of_call_row (Try handler) t program scene = Some (alone (turn_of_try handler) t scene)
outcome_of_call_row Endtry t program scene =
    let thread : ThreadState = thread_at scene t in
    Some (outcome_of_turn (turn_of_endtry (top_of thread.stack) thread) t scene)
outcome_of_call_row (Throw code) t program scene =
    let thread : ThreadState = thread_at scene t in
    Some (outcome_of_turn (turn_of_throw (value_in thread.registers code) thread) t scene)
outcome_of_call_row _ t program scene = None
