-- Each turn of a thread, and each expiry of a timed wait, leaves a sound scene sound.
use Rattle.std.proofs.Common.{◌≡◌, ℕ, ◌+◌, ◌<◌, length, refl, subst, arith, rules, Some, None}
use Rattle.instruction_table.specs.declared.{row.Row.Row, group.Group.Group, group.Group.TheVariants.Own}
use Rattle.instruction_table.specs.Group.{group_of}
use Rattle.loader.specs.Program.{Program, row_at}
use Rattle.thread_state.specs.declared.status.Status.{Status}
use Rattle.thread_state.specs.declared.status.Status.TheVariants as status
use Rattle.machine_scene.specs.{Scene.Scene, Scene.Outcome, Scene.thread_at, Sound.IsSound}
use Rattle.machine_scene.specs.Outcomes.{outcome_in_group, outcome_in, outcome_of, is_ready, timeout_in, outcome_of_expiry}
use Rattle.machine_scene.proofs.{Facts.next_within, Facts.named_at, Facts.placed_at, DataRows.sound_data_row}
use Rattle.machine_scene.proofs.{Plain.KeepsSound, Plain.StandsAt, Plain.either, CallRows.sound_call_row, CallRows.sound_popped}
use Rattle.machine_scene.proofs.{OwnRows.sound_own_row, OwnRows.sound_getter_row, PhaserRows.sound_phaser_row}
use Rattle.machine_scene.proofs.BarrierRows.{sound_barrier_row}
use Rattle.machine_scene.proofs.Waits.{sound_phase_wait, sound_barrier_wait, sound_phase_timeout, sound_barrier_timeout}

-- what is known of thread t in a sound scene
pub stands_at : (program : Program) (steps t : ℕ) (scene : Scene) (state : Status) → IsSound program steps scene → steps < 2147483647
    → t < length scene.threads → (thread_at scene t).status ≡ state
    → StandsAt program steps t scene state (row_at program.rows (thread_at scene t).pc)
stands_at program steps t scene state sound few there is = grind (arith, placed_at, next_within, named_at)

sound_in_group : (group : Group) (program : Program) (steps t : ℕ) (scene : Scene) (row : Row) → StandsAt program steps t scene status.Runs row
    → KeepsSound program (steps + 1) (outcome_in_group group row t program scene)
sound_in_group Own program steps t scene row stands = sound_own_row row program steps t scene stands
sound_in_group group program steps t scene row stands = search (rules, sound_own_row, sound_call_row, sound_data_row, sound_phaser_row, sound_getter_row, sound_barrier_row)

sound_in : (state : Status) (program : Program) (steps t : ℕ) (scene : Scene) (row : Row) → StandsAt program steps t scene state row
    → KeepsSound program (steps + 1) (outcome_in state row t program scene)
sound_in status.Runs program steps t scene row stands = sound_in_group (group_of row) program steps t scene row stands
sound_in state program steps t scene row stands = search (rules, sound_in_group, sound_popped, sound_phase_wait, sound_barrier_wait)

timeout_sound_in : (state : Status) (program : Program) (steps t : ℕ) (scene : Scene) (row : Row) → StandsAt program steps t scene state row
    → KeepsSound program (steps + 1) (timeout_in state row t scene)
timeout_sound_in (status.AwaitsPhase phase) program steps t scene row stands = sound_phase_timeout row phase program steps t scene stands
timeout_sound_in state program steps t scene row stands = search (rules, sound_phase_timeout, sound_barrier_timeout)

-- where the turn of thread t has an outcome
pub sound_outcome : (program : Program) (steps t : ℕ) (scene : Scene) (outcome : Outcome) → IsSound program steps scene
    → steps < 2147483647 → t < length scene.threads → outcome_of t program scene ≡ Some outcome
    → IsSound program (steps + 1) outcome.scene
sound_outcome program steps t scene outcome sound few there is =
    let thread = thread_at scene t in
    subst (KeepsSound program (steps + 1)) is
    (sound_in thread.status program steps t scene (row_at program.rows thread.pc)
    (stands_at program steps t scene thread.status sound few there refl))

-- where the expiry of its wait has one
pub sound_timeout : (program : Program) (steps t : ℕ) (scene : Scene) (outcome : Outcome) → IsSound program steps scene
    → steps < 2147483647 → t < length scene.threads → outcome_of_expiry t program scene ≡ Some outcome
    → IsSound program (steps + 1) outcome.scene
sound_timeout program steps t scene outcome sound few there is =
    let thread = thread_at scene t in
    subst (KeepsSound program (steps + 1)) is
    (either (KeepsSound program (steps + 1)) (is_ready t program scene) {a = None} tt
    (timeout_sound_in thread.status program steps t scene (row_at program.rows thread.pc)
    (stands_at program steps t scene thread.status sound few there refl)))
