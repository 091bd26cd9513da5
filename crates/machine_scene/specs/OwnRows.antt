-- Rows that change only the registers and the place of their own thread, and the row `halt`.
use Rattle.std.specs.Prelude.{ℕ, Option, Some, None, if◌then◌else◌}
use Rattle.instruction_table.specs.{declared.row.Row.Row, declared.row.Row.TheVariants.Halt, LocalRows.is_local_row}
use Rattle.thread_state.specs.Thread.{turn_of_halt, turn_of_local}
use Rattle.machine_scene.specs.Scene.{Scene, Outcome, thread_at, outcome_of_turn, alone}

-- what such a row does; a row of another group has no outcome here
abbrev pub outcome_of_own_row : Row → ℕ → Scene → Option Outcome
outcome_of_own_row Halt t scene = Some (alone turn_of_halt t scene)
outcome_of_own_row row t scene =
    if is_local_row row then Some (outcome_of_turn (turn_of_local row (thread_at scene t)) t scene) else None
