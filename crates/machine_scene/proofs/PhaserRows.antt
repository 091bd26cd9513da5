-- Rows that register at a phaser, arrive, wait or terminate.
use Rattle.std.proofs.Common.{◌≡◌, ℕ, ℤ, pos, ◌+◌, ◌<◌, Bool, false, List, length, refl, arith, if◌then◌else◌, rules, ◌&&◌, not, nat_abs, int_lt, Option, Some, None}
use Rattle.std.specs.Ordering.{int_eq}
use Rattle.instruction_table.specs.declared.row.Row.{Row, TheVariants.Preg, TheVariants.Pforce}
use Rattle.instruction_table.specs.declared.register.Reg.{Reg}
use Rattle.packed_phaser.specs.Flat.{view_of}
use Rattle.tier_tree.specs.declared.{registered.Registered.Registered, arrived.Arrived.Arrived, id.PhaserId.PhaserId}
use Rattle.tier_tree.specs.{Forest.PhaserState, Forest.flat_at, Arrival.arrival, PhaseEnd.after_phase_end, PhaseEnd.after_force}
use Rattle.tier_tree.specs.declared.registered.Registered.TheVariants as registered
use Rattle.tier_tree.specs.declared.arrived.Arrived.TheVariants as arrived
use Rattle.tier_tree.proofs.Trees.{KeepsTrees, trees_registered, trees_arrived, trees_forced, trees_turned_at_once, more_trees}
use Rattle.loader.specs.{Named.stops, Program.Program}
use Rattle.thread_state.specs.declared.status.Status.TheVariants as status
use Rattle.thread_state.specs.Thread.{ThreadState, Turn, is_full, turn_of_throw, turn_of_interruption, turn_of_answer, turn_of_done, turn_of_wait}
use Rattle.machine_scene.specs.{declared.manner.Manner.Manner, declared.patience.Patience.Patience, Sound.IsSound}
use Rattle.machine_scene.specs.Scene.{Scene, Outcome, thread_at, routine_at, with_phasers, outcome_of_turn}
use Rattle.machine_scene.specs.PhaserRows.{is_own_tree, has_routine, answer_of_policy, turn_of_arrival, turn_of_patience, turn_of_await, unless_own, outcome_of_pending_end, outcome_of_arrived, outcome_with_room, outcome_of_arrival, outcome_of_registered, outcome_of_registration, outcome_of_bulk, outcome_of_await, outcome_of_force, outcome_of_phaser_row}
use Rattle.machine_scene.specs.declared.patience.Patience.TheVariants as patience
use Rattle.machine_scene.proofs.{Facts.RunsOn, Facts.routine_within, Routines.turning_root, Routines.sound_enter}
use Rattle.machine_scene.proofs.Plain.{KeepsSound, StandsAt, either, free_in}
use Rattle.machine_scene.proofs.Turns.{KeepsStack, throw_keeps, interruption_keeps, answer_keeps, done_keeps, wait_keeps, sound_alone, sound_with_trees, sound_throw}

-- a registration, by its answer
sound_registered : (answer : Registered) (program : Program) (steps t : ℕ) (scene : Scene) (row : Row) (into : Reg) (phasers : List PhaserState)
    → StandsAt program steps t scene status.Runs row → stops row ≡ false → KeepsTrees (steps + 1) scene.phasers phasers
    → KeepsSound program (steps + 1) (outcome_of_registered answer into t (with_phasers phasers scene))
sound_registered (registered.At phase) program steps t scene row into phasers stands goes kept =
    sound_with_trees program steps t scene status.Runs row (turn_of_answer into phase (thread_at scene t)) phasers stands RunsOn
    (answer_keeps program (thread_at scene t) into phase (stands.next goes)) kept
sound_registered (registered.Dead view) program steps t scene row into phasers stands goes kept =
    sound_with_trees program steps t scene status.Runs row (turn_of_answer into view (thread_at scene t)) phasers stands RunsOn
    (answer_keeps program (thread_at scene t) into view (stands.next goes)) kept
sound_registered registered.TooMany program steps t scene row into phasers stands goes kept =
    sound_with_trees program steps t scene status.Runs row (turn_of_throw (pos 1) (thread_at scene t)) phasers stands RunsOn
    (throw_keeps program (thread_at scene t) (pos 1) stands.within) kept
sound_registered registered.Held program steps t scene row into phasers stands goes kept = tt

sound_registration : (program : Program) (steps t p count : ℕ) (scene : Scene) (row : Row) (into : Reg)
    → StandsAt program steps t scene status.Runs row → stops row ≡ false → p < length scene.phasers
    → KeepsSound program (steps + 1) (outcome_of_registration into p count t scene)
sound_registration program steps t p count scene row into stands goes there = search (rules, sound_registered, more_trees, trees_registered)

-- an arrival that turned a root
sound_turning : (answer : Option Bool) (program : Program) (steps t p : ℕ) (manner : Manner) (scene : Scene) (row : Row)
    (root : PhaserId) (phase : ℤ) (parties : ℕ)
    → StandsAt program steps t scene status.Runs row → stops row ≡ false → p < length scene.phasers
    → (arrival p manner.leaves scene.phasers).answer ≡ arrived.Turning root phase parties
    → IsSound program (steps + 1)
    (outcome_of_pending_end answer manner root.0 phase t program (with_phasers (arrival p manner.leaves scene.phasers).phasers scene)).scene
sound_turning (Some ends) program steps t p manner scene row root phase parties stands goes there is =
    let arrived_at = (arrival p manner.leaves scene.phasers).phasers in
    let after = after_phase_end root.0 ends arrived_at in
    let before = thread_at scene t in
    let value = if manner.waits then view_of (flat_at after root.0) else phase in
    sound_with_trees program steps t scene status.Runs row (turn_of_answer manner.into value before) after stands RunsOn
    (answer_keeps program before manner.into value (stands.next goes))
    (trees_turned_at_once steps p manner.leaves ends scene.phasers root phase parties stands.sound.trees stands.few there is)
sound_turning None program steps t p manner scene row root phase parties stands goes there is =
    let facts = turning_root steps p manner.leaves scene.phasers root phase parties stands.sound.trees stands.few there is in
    let many = (trees_arrived steps p manner.leaves scene.phasers stands.sound.trees there).many in
    let inside = facts.2.there in
    sound_enter program steps t p manner.leaves scene root phase parties _ (routine_at program root.0) stands.sound stands.few stands.there there
    (stands.next goes) (routine_within program scene root.0 stands.sound.code (omega (arith, many, inside)))
    (free_in program steps t scene status.Runs row stands RunsOn) is

-- by what the arrival came to
sound_arrived : (answer : Arrived) (program : Program) (steps t p : ℕ) (manner : Manner) (scene : Scene) (row : Row)
    → StandsAt program steps t scene status.Runs row → stops row ≡ false → p < length scene.phasers
    → (arrival p manner.leaves scene.phasers).answer ≡ answer
    → IsSound program (steps + 1)
    (outcome_of_arrived answer manner t program (with_phasers (arrival p manner.leaves scene.phasers).phasers scene)).scene
sound_arrived (arrived.At phase) program steps t p manner scene row stands goes there is =
    let before = thread_at scene t in
    let after = (arrival p manner.leaves scene.phasers).phasers in
    sound_with_trees program steps t scene status.Runs row (turn_of_arrival manner phase before) after stands RunsOn
    (either (KeepsStack program before) manner.waits {a = turn_of_wait phase before} {b = turn_of_answer manner.into phase before}
    (wait_keeps program before phase stands.within) (answer_keeps program before manner.into phase (stands.next goes)))
    (more_trees steps scene.phasers after (trees_arrived steps p manner.leaves scene.phasers stands.sound.trees there))
sound_arrived (arrived.Turning root phase parties) program steps t p manner scene row stands goes there is =
    let after : Scene = with_phasers (arrival p manner.leaves scene.phasers).phasers scene in
    sound_turning (answer_of_policy root.0 after) program steps t p manner scene row root phase parties stands goes there is
sound_arrived (arrived.Dead view) program steps t p manner scene row stands goes there is =
    let before = thread_at scene t in
    let after = (arrival p manner.leaves scene.phasers).phasers in
    sound_with_trees program steps t scene status.Runs row (turn_of_answer manner.into view before) after stands RunsOn
    (answer_keeps program before manner.into view (stands.next goes))
    (more_trees steps scene.phasers after (trees_arrived steps p manner.leaves scene.phasers stands.sound.trees there))
sound_arrived arrived.NotThere program steps t p manner scene row stands goes there is =
    let before = thread_at scene t in
    let after = (arrival p manner.leaves scene.phasers).phasers in
    sound_with_trees program steps t scene status.Runs row (turn_of_throw (pos 1) before) after stands RunsOn
    (throw_keeps program before (pos 1) stands.within)
    (more_trees steps scene.phasers after (trees_arrived steps p manner.leaves scene.phasers stands.sound.trees there))

sound_arrival : (program : Program) (steps t p : ℕ) (manner : Manner) (scene : Scene) (row : Row)
    → StandsAt program steps t scene status.Runs row → stops row ≡ false → p < length scene.phasers
    → IsSound program (steps + 1) (outcome_of_arrival manner p t program scene).scene
sound_arrival program steps t p manner scene row stands goes there =
    either (λ (outcome : Outcome). IsSound program (steps + 1) outcome.scene) (has_routine p scene && is_full (thread_at scene t))
    {a = outcome_of_turn (turn_of_throw (pos 6) (thread_at scene t)) t scene} {b = outcome_with_room manner p t program scene}
    (sound_throw program steps t scene row (pos 6) stands)
    (sound_arrived (arrival p manner.leaves scene.phasers).answer program steps t p manner scene row stands goes there refl)

-- a thread asks to wait for the end of a phase
patience_keeps : (limit : Patience) (program : Program) (before : ThreadState) (phase : ℤ) → before.pc < length program.rows
    → KeepsStack program before (turn_of_patience limit phase before)
patience_keeps patience.Endless program before phase within = wait_keeps program before phase within
patience_keeps patience.Interruptible program before phase within =
    either (KeepsStack program before) before.interrupted {a = turn_of_interruption before} {b = turn_of_wait phase before}
    (interruption_keeps program before within) (wait_keeps program before phase within)
patience_keeps (patience.Timed time) program before phase within =
    let wait : Turn = turn_of_wait phase before in
    let late : Turn = turn_of_throw (pos 5) before in
    either (KeepsStack program before) before.interrupted {a = turn_of_interruption before}
    {b = if int_lt (pos 0) time then wait else late}
    (interruption_keeps program before within)
    (either (KeepsStack program before) (int_lt (pos 0) time) {a = wait} {b = late}
    (wait_keeps program before phase within) (throw_keeps program before (pos 5) within))

await_keeps : (limit : Patience) (program : Program) (before : ThreadState) (into : Reg) (phase view : ℤ) → before.pc < length program.rows
    → before.pc + 1 < length program.rows → KeepsStack program before (turn_of_await limit into phase view before)
await_keeps limit program before into phase view within next =
    let past : Turn = turn_of_answer into view before in
    let patient : Turn = turn_of_patience limit phase before in
    either (KeepsStack program before) (int_lt phase (pos 0)) {a = turn_of_answer into phase before}
    {b = if not (int_eq view phase) then past else patient}
    (answer_keeps program before into phase next)
    (either (KeepsStack program before) (not (int_eq view phase)) {a = past} {b = patient}
    (answer_keeps program before into view next) (patience_keeps limit program before phase within))

sound_await : (limit : Patience) (program : Program) (steps t p : ℕ) (scene : Scene) (row : Row) (into : Reg) (phase : ℤ)
    → StandsAt program steps t scene status.Runs row → stops row ≡ false
    → IsSound program (steps + 1) (outcome_of_await limit into p phase t scene).scene
sound_await limit program steps t p scene row into phase stands goes =
    let before = thread_at scene t in
    let view = view_of (flat_at scene.phasers p) in
    sound_alone program steps t scene status.Runs row (turn_of_await limit into phase view before) stands RunsOn
    (await_keeps limit program before into phase view stands.within (stands.next goes))

sound_force : (program : Program) (steps t p : ℕ) (scene : Scene) → StandsAt program steps t scene status.Runs (Pforce p)
    → IsSound program (steps + 1) (outcome_of_force p t scene).scene
sound_force program steps t p scene stands =
    let before = thread_at scene t in
    let after = after_force p scene.phasers in
    sound_with_trees program steps t scene status.Runs (Pforce p) (turn_of_done before) after stands RunsOn
    (done_keeps program before (stands.next refl) (free_in program steps t scene status.Runs (Pforce p) stands RunsOn))
    (more_trees steps scene.phasers after (trees_forced steps p scene.phasers stands.sound.trees stands.named))

-- in the routine of its own tree the thread throws instead
sound_unless_own : (program : Program) (steps t p : ℕ) (scene : Scene) (row : Row) (outcome : Option Outcome)
    → StandsAt program steps t scene status.Runs row → KeepsSound program (steps + 1) outcome
    → KeepsSound program (steps + 1) (unless_own p t scene outcome)
sound_unless_own program steps t p scene row outcome stands sound =
    either (KeepsSound program (steps + 1)) (is_own_tree p (thread_at scene t) scene)
    {a = Some (outcome_of_turn (turn_of_throw (pos 1) (thread_at scene t)) t scene)} {b = outcome}
    (sound_throw program steps t scene row (pos 1) stands) sound

sound_bulk : (program : Program) (steps t p : ℕ) (scene : Scene) (row : Row) (into : Reg) (count : ℤ)
    → StandsAt program steps t scene status.Runs row → stops row ≡ false → p < length scene.phasers
    → KeepsSound program (steps + 1) (outcome_of_bulk into p count t scene)
sound_bulk program steps t p scene row into count stands goes there =
    either (KeepsSound program (steps + 1)) (int_lt count (pos 0))
    {a = Some (outcome_of_turn (turn_of_throw (pos 2) (thread_at scene t)) t scene)} {b = outcome_of_registration into p (nat_abs count) t scene}
    (sound_throw program steps t scene row (pos 2) stands)
    (sound_registration program steps t p (nat_abs count) scene row into stands goes there)

pub sound_phaser_row : (row : Row) (program : Program) (steps t : ℕ) (scene : Scene) → StandsAt program steps t scene status.Runs row
    → KeepsSound program (steps + 1) (outcome_of_phaser_row row t program scene)
sound_phaser_row (Preg into p) program steps t scene stands =
    sound_unless_own program steps t p scene (Preg into p) _ stands (sound_registration program steps t p 1 scene (Preg into p) into stands refl stands.named)
sound_phaser_row row program steps t scene stands = search (rules, sound_unless_own, sound_registration, sound_bulk, sound_arrival, sound_await, sound_force)
