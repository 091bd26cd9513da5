-- Whoever is listed as ready has an outcome, and nobody else.
use Rattle.std.proofs.Common.{◌≡◌, ℕ, ℤ, not, ◌&&◌, is_some, arith}
use Rattle.instruction_table.specs.declared.row.Row.{Row}
use Rattle.loader.specs.Program.{Program, row_at}
use Rattle.machine_scene.specs.{Scene.Scene, Scene.thread_at, Waits.outcome_of_phase_wait, Waits.outcome_of_barrier_wait}
use Rattle.machine_scene.specs.Outcomes.{is_ready, outcome_of_expiry}
use Rattle.machine_scene.specs.Ready.{is_awaited, is_over, is_listed, can_run_out}
use Rattle.machine_scene.proofs.Readiness.{row_is_ready}

pub phase_wait_ready : (r : Row) (phase : ℤ) (t : ℕ) (scene : Scene)
    → is_some (outcome_of_phase_wait r phase t scene) ≡ is_awaited r phase t scene
phase_wait_ready r phase t scene = grind arith

pub barrier_wait_ready : (r : Row) (index : ℤ) (t : ℕ) (scene : Scene)
    → is_some (outcome_of_barrier_wait r index t scene) ≡ is_over r t scene
barrier_wait_ready r index t scene = grind arith

-- a turn has an outcome exactly where it is listed as ready
pub ready_as_listed : (t : ℕ) (program : Program) (scene : Scene)
    → is_ready t program scene
    ≡ is_listed (thread_at scene t).status (row_at program.rows (thread_at scene t).pc) t scene
ready_as_listed t program scene = grind (arith, row_is_ready, phase_wait_ready, barrier_wait_ready)

-- an expiry has an outcome exactly where the turn has none, the wait has a time, and no thread runs the barrier's action
pub expiry_as_listed : (t : ℕ) (program : Program) (scene : Scene)
    → is_some (outcome_of_expiry t program scene)
    ≡ (not (is_ready t program scene)
    && can_run_out (thread_at scene t).status (row_at program.rows (thread_at scene t).pc) scene)
expiry_as_listed t program scene = grind arith
