-- Turns of the common kinds: what they leave of the sets of ready threads.
use Rattle.std.proofs.Common.{◌≡◌, ◌≢◌, ◌∙◌, ℕ, ◌<◌, ◌||◌, true, false, ap, arith, length, Option, Some, None, get_or-set_same}
use Rattle.instruction_table.specs.{declared.row.Row.Row, LocalRows.is_local_row}
use Rattle.tier_tree.specs.declared.arrived.Arrived.TheVariants as arrived
use Rattle.cyclic_barrier.specs.ThreadSet.{has}
use Rattle.loader.specs.Program.{Program, row_at}
use Rattle.thread_state.specs.declared.event.Event.{Event}
use Rattle.machine_scene.specs.{declared.ready_set.ReadySet.ReadySet, Ready.may_be_blocked}
use Rattle.machine_scene.specs.Scene.{Scene, StoredScene, Outcome, scene_of, thread_at}
use Rattle.machine_scene.specs.Outcomes.{outcome_of_row, outcome_in, is_ready}
use Rattle.machine_scene.specs.ReadySet.{KnowsReady, AreReadyBeside, is_registering, interrupts, concerns_others, changes_all, is_arrival, is_common, is_wait}
use Rattle.machine_scene.proofs.{ReadySets.seldom_registers, ReadySets.somebody_registers, Standings.arrival-standings}
use Rattle.machine_scene.proofs.Steady.{other_ready}

-- a row at which nobody has to wait, and by which no other thread's turn changes where the event shows no more than a turn
record IsCalm (row : Row) : Type 0 where
  pub few : (event : Event) → concerns_others event ≡ false → changes_all row event ≡ false
  pub interrupts : (u : ℕ) → interrupts u row ≡ false
  pub seldom : may_be_blocked row ≡ false

-- where a thread begins to wait in an outcome, its turn isn't ready after it, and it isn't about to register
abbrev WaitsIf : ℕ → Program → Option Outcome → Type 0
WaitsIf t program None = Unit {0}
WaitsIf t program (Some outcome) = is_wait outcome.event.what ≡ true
    → (is_ready t program outcome.scene ≡ false) × (is_registering t program outcome.scene ≡ false)

-- unless it meets an exception before
waits_row : (row : Row) (t : ℕ) (program : Program) (scene : Scene) → (is_local_row row || is_arrival row) ≡ true
    → row ≡ row_at program.rows (thread_at scene t).pc → t < length scene.threads → WaitsIf t program (outcome_of_row row t program scene)
waits_row row t program scene common at there = grind (arith, arrival-standings, get_or-set_same)

-- after a turn of a common kind
pub record AfterCommon (program : Program) (row : Row) (t : ℕ) (old mid : StoredScene) (event : Event) : Type 0 where
  pub at : row ≡ row_at program.rows (thread_at (scene_of old) t).pc
  pub there : t < length old.threads
  pub comes : outcome_in (thread_at (scene_of old) t).status row t program (scene_of old) ≡ Some (record { scene = scene_of mid; event = event })
  pub common : is_common (thread_at (scene_of old) t).status row ≡ true
  pub trees : old.ready.registering ≢ 0 → mid.phasers ≡ old.phasers
  pub ready : mid.ready ≡ old.ready

calm_after : (program : Program) (row : Row) (t : ℕ) (old mid : StoredScene) (event : Event) → AfterCommon program row t old mid event → IsCalm row
calm_after program row t old mid event after = grind arith

-- the thread's turn was ready
pub turn_kept : (program : Program) (row : Row) (t : ℕ) (old mid : StoredScene) (event : Event) → AfterCommon program row t old mid event
    → KnowsReady program old → has mid.ready.turns t ≡ true
turn_kept program row t old mid event after knows = grind arith

-- it wasn't about to register
pub apart_kept : (program : Program) (row : Row) (t : ℕ) (old mid : StoredScene) (event : Event) → AfterCommon program row t old mid event
    → KnowsReady program old → has mid.ready.registering t ≡ false
apart_kept program row t old mid event after knows = grind (arith, seldom_registers, calm_after)

-- of all others the sets are right
pub beside_kept : (program : Program) (row : Row) (t : ℕ) (old mid : StoredScene) (event : Event) → AfterCommon program row t old mid event
    → KnowsReady program old → concerns_others event ≡ false → AreReadyBeside program t mid.ready (scene_of mid)
beside_kept program row t old mid event after knows quiet =
    record {
      turns = λ u apart. ap (λ (set : ReadySet). has set.turns u) after.ready ∙ (other u apart).0;
      registering = λ u apart. ap (λ (set : ReadySet). has set.registering u) after.ready ∙ (other u apart).1;
    }
  where
    other : (u : ℕ) → u ≢ t → (has old.ready.turns u ≡ is_ready u program (scene_of mid))
        × (has old.ready.registering u ≡ is_registering u program (scene_of mid))
    other u apart =
        let calm = calm_after program row t old mid event after in
        other_ready program t u row old mid event knows after.comes (calm.few event quiet) (calm.interrupts u) apart
        (λ is. after.trees (somebody_registers old.ready.registering u is))

-- where it begins to wait, it isn't ready
pub waits_kept : (program : Program) (row : Row) (t : ℕ) (old mid : StoredScene) (event : Event) → AfterCommon program row t old mid event
    → is_wait event.what ≡ true → (is_ready t program (scene_of mid) ≡ false) × (is_registering t program (scene_of mid) ≡ false)
waits_kept program row t old mid event after = grind (arith, waits_row)

-- at a row on registers alone the event shows no more than a turn
pub local_kept : (program : Program) (row : Row) (t : ℕ) (old mid : StoredScene) (event : Event) → AfterCommon program row t old mid event
    → is_local_row row ≡ true → concerns_others event ≡ false
local_kept program row t old mid event after is = grind arith
