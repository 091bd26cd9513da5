-- Turns of running threads at rows on registers alone.
use Rattle.std.proofs.Common.{◌≡◌, ℕ, true, arith, Some}
use Rattle.instruction_table.specs.{declared.row.Row.Row, LocalRows.is_local_row}
use Rattle.loader.specs.Program.{Program}
use Rattle.thread_state.specs.{declared.status.Status.Status, Thread.turn_of_local}
use Rattle.thread_state.specs.declared.status.Status.TheVariants as status
use Rattle.machine_scene.specs.{Scene.Scene, Scene.Outcome, Scene.thread_at, Scene.outcome_of_turn, OwnRows.outcome_of_own_row}
use Rattle.machine_scene.specs.{Outcomes.outcome_in, ReadySet.is_local_turn}

-- what a row on registers alone comes to
abbrev local_outcome : Row → ℕ → Scene → Outcome
local_outcome row t scene = outcome_of_turn (turn_of_local row (thread_at scene t)) t scene

-- the thread runs, and the row is such a one
runs : (of : Status) (row : Row) → is_local_turn of row ≡ true → of ≡ status.Runs
runs of row is = grind arith

pub is_local : (of : Status) (row : Row) → is_local_turn of row ≡ true → is_local_row row ≡ true
is_local of row is = grind arith

-- its outcome
pub own_outcome : (row : Row) (t : ℕ) (scene : Scene) → is_local_row row ≡ true → outcome_of_own_row row t scene ≡ Some (local_outcome row t scene)
own_outcome row t scene is = grind arith

-- it is the outcome of the turn
pub local_turn : (of : Status) (row : Row) (t : ℕ) (program : Program) (scene : Scene) → is_local_turn of row ≡ true
    → outcome_in of row t program scene ≡ outcome_of_own_row row t scene
local_turn of row t program scene is = grind arith
