-- Rows that use outputs, cells, thread numbers and interrupted statuses.
use Rattle.std.specs.Prelude.{ℕ, pos, Bool, true, false, ◌&&◌, nat_lt, length, Option, Some, None}
use Rattle.instruction_table.specs.{declared.row.Row.Row, declared.register.Reg.Reg, Registers.value_in}
use Rattle.instruction_table.specs.declared.row.Row.TheVariants.{Out, Lds, Sts, SelfNumber, Intr, Intrd}
use Rattle.thread_state.specs.declared.status.Status.{Status}
use Rattle.thread_state.specs.Thread.{ThreadState, turn_of_out, turn_of_answer, turn_of_done, turn_of_intrd, interrupted}
use Rattle.thread_state.specs.declared.status.Status.TheVariants as status
use Rattle.machine_scene.specs.Scene.{Scene, Outcome, thread_at, cell_at, with_thread, with_cell, outcome_of_turn, alone}

-- `sts`: thread t stores a register into a cell
abbrev pub outcome_of_store : Reg → ℕ → ℕ → Scene → Outcome
outcome_of_store from cell t scene =
    let thread : ThreadState = thread_at scene t in
    outcome_of_turn (turn_of_done thread) t (with_cell (value_in thread.registers from) cell scene)

-- `intr`: thread t interrupts another, or itself
abbrev pub outcome_of_interrupt : ℕ → ℕ → Scene → Outcome
outcome_of_interrupt other t scene =
    let after : Scene = with_thread (interrupted (thread_at scene other)) other scene in
    outcome_of_turn (turn_of_done (thread_at after t)) t after

-- what such a row does; a row of another group has no outcome here
abbrev pub outcome_of_data_row : Row → ℕ → Scene → Option Outcome
outcome_of_data_row (Out value) t scene = Some (alone (turn_of_out value) t scene)
outcome_of_data_row (Lds into cell) t scene = Some (alone (turn_of_answer into (cell_at scene cell)) t scene)
outcome_of_data_row (Sts from cell) t scene = Some (outcome_of_store from cell t scene)
outcome_of_data_row (SelfNumber into) t scene = Some (alone (turn_of_answer into (pos t)) t scene)
outcome_of_data_row (Intr other) t scene = Some (outcome_of_interrupt other t scene)
outcome_of_data_row (Intrd into) t scene = Some (alone (turn_of_intrd into) t scene)
outcome_of_data_row _ t scene = None

-- whether a thread plays its rows
abbrev pub runs : Status → Bool
runs status.Runs = true
runs _ = false

-- whether a turn may need memory: a running thread puts a value out, and has fewer than 4096
abbrev pub may_grow : Row → ThreadState → Bool
may_grow (Out value) thread = runs thread.status && nat_lt (length thread.output) 4096
may_grow _ thread = false
