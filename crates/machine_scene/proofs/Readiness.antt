-- Which turns have an outcome.
use Rattle.std.proofs.Common.{◌≡◌, ◌≢◌, ℕ, ℤ, Bool, true, false, refl, if◌then◌else◌, arith, rules, Option, Some, None, is_some, not}
use Rattle.instruction_table.specs.declared.{row.Row.Row, register.Reg.Reg}
use Rattle.cyclic_barrier.specs.declared.answer.WaitState.{WaitState}
use Rattle.cyclic_barrier.specs.declared.answer.WaitState.TheVariants as state
use Rattle.loader.specs.Program.{Program, row_at}
use Rattle.machine_scene.specs.{Scene.Scene, Scene.Outcome, Scene.thread_at, PhaserRows.unless_own, Waits.outcome_of_release}
use Rattle.machine_scene.specs.{Outcomes.outcome_of_row, Outcomes.outcome_of_expiry, Outcomes.timeout_in, Ready.is_blocked}

-- a row that throws or does what it does has an outcome
own_is_ready : (p t : ℕ) (scene : Scene) (outcome : Outcome) → is_some (unless_own p t scene (Some outcome)) ≡ true
own_is_ready p t scene outcome = grind arith

-- a row of a running thread has an outcome exactly where it needn't wait
pub row_is_ready : (row : Row) (t : ℕ) (program : Program) (scene : Scene)
    → is_some (outcome_of_row row t program scene) ≡ not (is_blocked row t scene)
row_is_ready row t program scene = search (rules, own_is_ready)

-- a wait that can't end is unreleased
pub unreleased : (wait : Option WaitState) (into : Reg) (index : ℤ) (b t : ℕ) (scene : Scene)
    → is_some (outcome_of_release wait into index b t scene) ≡ false → wait ≢ None → wait ≡ Some state.Waiting
unreleased wait into index b t scene ends there = grind arith

-- an expiry that is ready is the timeout, of a thread whose turn isn't
pub expiry_not_ready : (ready : Bool) (timeout : Option Outcome) → is_some (if ready then None else timeout) ≡ true → ready ≡ false
expiry_not_ready true timeout some = absurd (cc some)
expiry_not_ready false timeout some = refl

pub expired : (row : Row) (t : ℕ) (program : Program) (scene : Scene) (outcome : Outcome)
    → row ≡ row_at program.rows (thread_at scene t).pc → is_some (outcome_of_expiry t program scene) ≡ true
    → timeout_in (thread_at scene t).status row t scene ≡ Some outcome → outcome_of_expiry t program scene ≡ Some outcome
expired row t program scene outcome is some timeout = grind (arith, expiry_not_ready)
