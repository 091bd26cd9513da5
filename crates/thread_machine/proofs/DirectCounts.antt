-- What each turn makes of the direct counts, and that no phase ends early with it.
use Rattle.std.proofs.Common.{◌≡◌, ◌≢◌, ℕ, ℤ, pos, ◌<◌, Bool, true, false, List, length, refl, sym, subst, if◌then◌else◌, arith, rules, ◌||◌, not, Option, Some, None}
use Rattle.std.specs.Ordering.{int_eq}
use Rattle.instruction_table.specs.declared.{row.Row.Row, row.Row.TheVariants.Ret, row.Row.TheVariants.Preg, register.Reg.Reg}
use Rattle.instruction_table.specs.{declared.register.Reg.TheVariants.R0, Registers.value_in, declared.group.Group.Group}
use Rattle.instruction_table.specs.declared.group.Group.TheVariants.{Own, Calls, Data, Phasers, Getters, Barriers}
use Rattle.instruction_table.specs.Group.{group_of}
use Rattle.tier_tree.specs.declared.{registered.Registered.Registered, arrived.Arrived.Arrived, id.PhaserId.PhaserId}
use Rattle.tier_tree.specs.{Forest.PhaserState, Forest.flat_at, Arrival.Arrives, Arrival.arrival, PhaseEnd.after_phase_end}
use Rattle.tier_tree.specs.{Origin.Origin, Origin.AreTallied, Origin.origin_after_registration, Trees.AreTrees}
use Rattle.tier_tree.specs.declared.arrived.Arrived.TheVariants as arrived
use Rattle.tier_tree.proofs.{Kept.registration-ends, Kept.arrival-ends, Kept.force-ends, Joined.stands_registered}
use Rattle.tier_tree.proofs.{Stands.stands_after_arrival, Turned.stands_after_force, Trees.trees_same, Trees.trees_arrived}
use Rattle.loader.specs.Program.{Program, row_at}
use Rattle.thread_state.specs.{declared.frame.Frame.Frame, declared.status.Status.Status, Thread.top_of, Thread.left_routine}
use Rattle.thread_state.specs.declared.frame.Frame.TheVariants as frame
use Rattle.thread_state.specs.declared.status.Status.TheVariants as status
use Rattle.machine_scene.specs.{declared.manner.Manner.Manner, OwnRows.outcome_of_own_row, Manner.manner_of}
use Rattle.machine_scene.specs.Scene.{Scene, Outcome, thread_at, barrier_at, with_thread, with_phasers}
use Rattle.machine_scene.specs.CallRows.{outcome_of_routine_end, outcome_of_ret, outcome_of_call_row}
use Rattle.machine_scene.specs.{DataRows.outcome_of_data_row, GetterRows.outcome_of_getter_row}
use Rattle.machine_scene.specs.BarrierRows.{is_run_by, unless_runner, outcome_of_await_at, outcome_of_barrier_row}
use Rattle.machine_scene.specs.PhaserRows.{outcome_of_pending_end, outcome_of_arrived, outcome_of_arrival, outcome_of_registered, outcome_of_bulk, unless_own, outcome_of_phaser_row}
use Rattle.machine_scene.specs.Waits.{outcome_of_awaited, outcome_of_phase_wait, outcome_of_barrier_wait, outcome_of_barrier_timeout}
use Rattle.machine_scene.specs.Outcomes.{outcome_in_group, outcome_in, timeout_in}
use Rattle.machine_scene.proofs.{Plain.StandsAt, Plain.either, Routines.turning_root, CallRows.can_turn_on_top}
use Rattle.thread_machine.specs.DirectCounts.{with_registration, with_arrival, with_row, with_turn}
use Rattle.thread_machine.proofs.PhaseNumbers.{registration-numbers, arrival-numbers, force-numbers}
use Rattle.thread_machine.proofs.PhaseEnds.{Fares, fares_on, fares_same, fares_ended}

-- the phasers after an outcome; without one they stay
abbrev pub phasers_after : Option Outcome → Scene → List PhaserState
phasers_after (Some outcome) scene = outcome.scene.phasers
phasers_after None scene = scene.phasers

-- the counts fare well with it
abbrev pub FaresTo : Scene → Origin → Option Outcome → Type 0
FaresTo scene counted outcome = Fares scene.phasers (phasers_after outcome scene) counted

-- an outcome that touches no phaser
abbrev pub IsAside : Scene → Option Outcome → Type 0
IsAside scene outcome = phasers_after outcome scene ≡ scene.phasers

pub aside_fares : (outcome : Option Outcome) (scene : Scene) (origin : Origin) → IsAside scene outcome → AreTallied scene.phasers origin
    → FaresTo scene origin outcome
aside_fares outcome scene origin aside stands = grind arith

-- rows that touch no phaser
own_aside : (row : Row) (t : ℕ) (scene : Scene) → IsAside scene (outcome_of_own_row row t scene)
own_aside row t scene = grind arith

data_aside : (row : Row) (t : ℕ) (scene : Scene) → IsAside scene (outcome_of_data_row row t scene)
data_aside row t scene = grind arith

getter_aside : (row : Row) (t : ℕ) (scene : Scene) → IsAside scene (outcome_of_getter_row row t scene)
getter_aside row t scene = grind arith

await_aside : (no_wait : Bool) (into : Reg) (b t : ℕ) (program : Program) (scene : Scene)
    → IsAside scene (outcome_of_await_at no_wait into b t program scene)
await_aside no_wait into b t program scene = grind arith

runner_aside : (b t : ℕ) (scene : Scene) (outcome : Option Outcome) → IsAside scene outcome → IsAside scene (unless_runner b t scene outcome)
runner_aside b t scene outcome aside = either (IsAside scene) (is_run_by t (barrier_at scene b).runner) {b = outcome} refl aside

barrier_aside : (row : Row) (t : ℕ) (program : Program) (scene : Scene) → IsAside scene (outcome_of_barrier_row row t program scene)
barrier_aside row t program scene = grind (arith, runner_aside, await_aside)

looked_aside : (looks : Bool) (into : Reg) (p : ℕ) (phase : ℤ) (t : ℕ) (scene : Scene)
    → IsAside scene (outcome_of_awaited looks into p phase t scene)
looked_aside looks into p phase t scene = grind arith

phase_wait_aside : (row : Row) (phase : ℤ) (t : ℕ) (scene : Scene) → IsAside scene (outcome_of_phase_wait row phase t scene)
phase_wait_aside row phase t scene = grind (arith, looked_aside)

barrier_wait_aside : (row : Row) (index : ℤ) (t : ℕ) (scene : Scene) → IsAside scene (outcome_of_barrier_wait row index t scene)
barrier_wait_aside row index t scene = grind arith

barrier_timeout_aside : (row : Row) (t : ℕ) (scene : Scene) → IsAside scene (outcome_of_barrier_timeout row t scene)
barrier_timeout_aside row t scene = grind arith

pub timeout_aside : (waits : Status) (row : Row) (t : ℕ) (scene : Scene) → IsAside scene (timeout_in waits row t scene)
timeout_aside waits row t scene = grind (arith, barrier_timeout_aside)

-- a registration, by its answer
registered_fares : (answer : Registered) (p count t : ℕ) (scene : Scene) (into : Reg) (origin : Origin) (phasers : List PhaserState)
    → Fares scene.phasers phasers (origin_after_registration answer p count origin) → AreTallied scene.phasers origin
    → FaresTo scene (origin_after_registration answer p count origin) (outcome_of_registered answer into t (with_phasers phasers scene))
registered_fares answer p count t scene into origin phasers fares stands = grind (arith, fares_same)

-- an arrival that turned a root: its phase ends with it, or its routine is entered
turning_fares : (answer : Option Bool) (program : Program) (steps t p : ℕ) (manner : Manner) (scene : Scene) (counted : Origin)
    (root : PhaserId) (phase : ℤ) (parties : ℕ)
    → AreTrees steps scene.phasers → steps < 2147483647 → p < length scene.phasers
    → (arrival p manner.leaves scene.phasers).answer ≡ arrived.Turning root phase parties
    → AreTallied (arrival p manner.leaves scene.phasers).phasers counted
    → FaresTo scene counted
    (Some (outcome_of_pending_end answer manner root.0 phase t program (with_phasers (arrival p manner.leaves scene.phasers).phasers scene)))
turning_fares (Some ends) program steps t p manner scene counted root phase parties trees few there is stands =
    let phasers = scene.phasers in
    let all : Arrives = arrival p manner.leaves phasers in
    let kept = trees_arrived steps p manner.leaves phasers trees there in
    let facts = turning_root steps p manner.leaves phasers root phase parties trees few there is in
    fares_ended root.0 ends phasers all.phasers counted kept.trees.forest facts.2 kept.places kept.many
    (arrival-ends p manner.leaves phasers) (arrival-numbers p manner.leaves phasers) stands
turning_fares None program steps t p manner scene counted root phase parties trees few there is stands = grind (arith, arrival-ends, arrival-numbers, fares_on)

-- by what the arrival came to
arrived_fares : (answer : Arrived) (program : Program) (steps t p : ℕ) (manner : Manner) (scene : Scene) (counted : Origin)
    → AreTrees steps scene.phasers → steps < 2147483647 → p < length scene.phasers
    → (arrival p manner.leaves scene.phasers).answer ≡ answer → AreTallied (arrival p manner.leaves scene.phasers).phasers counted
    → FaresTo scene counted (Some (outcome_of_arrived answer manner t program (with_phasers (arrival p manner.leaves scene.phasers).phasers scene)))
arrived_fares (arrived.At phase) program steps t p manner scene counted trees few there is stands =
    fares_on scene.phasers (arrival p manner.leaves scene.phasers).phasers counted (arrival-ends p manner.leaves scene.phasers) (arrival-numbers p manner.leaves scene.phasers) stands
arrived_fares answer program steps t p manner scene counted trees few there is stands = search (rules, fares_on, arrival-ends, arrival-numbers, turning_fares)

-- a row that is refused before its call counts nothing
refused_or : (own refused : Bool) (scene : Scene) (origin counted : Origin) (first second call : Option Outcome)
    → FaresTo scene origin first → FaresTo scene origin second → FaresTo scene counted call
    → FaresTo scene (if own || refused then origin else counted) (if own then first else (if refused then second else call))
refused_or true refused scene origin counted first second call a b c = a
refused_or false _ scene origin counted first second call a b c = grind arith

full_or : (own full : Bool) (scene : Scene) (origin counted : Origin) (first : Option Outcome) (second call : Outcome)
    → FaresTo scene origin first → FaresTo scene origin (Some second) → FaresTo scene counted (Some call)
    → FaresTo scene (if own || full then origin else counted) (if own then first else Some (if full then second else call))
full_or true full scene origin counted first second call a b c = a
full_or false _ scene origin counted first second call a b c = grind arith

arrival_fares : (program : Program) (steps t p : ℕ) (manner : Manner) (scene : Scene) (origin : Origin) → AreTrees steps scene.phasers
    → steps < 2147483647 → p < length scene.phasers → AreTallied scene.phasers origin
    → FaresTo scene (with_arrival p manner.leaves t scene origin)
    (unless_own p t scene (Some (outcome_of_arrival manner p t program scene)))
arrival_fares program steps t p manner scene origin trees few there stands = search (rules, fares_same, full_or, arrived_fares, stands_after_arrival)

bulk_fares : (steps t p : ℕ) (count : ℤ) (into : Reg) (scene : Scene) (origin : Origin) → AreTrees steps scene.phasers
    → p < length scene.phasers → AreTallied scene.phasers origin
    → FaresTo scene (with_registration p count t scene origin) (unless_own p t scene (outcome_of_bulk into p count t scene))
bulk_fares steps t p count into scene origin trees there stands = search (rules, fares_same, refused_or, registered_fares, fares_on, registration-ends, registration-numbers, stands_registered)

phaser_row_fares : (row : Row) (program : Program) (steps t : ℕ) (scene : Scene) (origin : Origin)
    → StandsAt program steps t scene status.Runs row → AreTallied scene.phasers origin
    → FaresTo scene (with_row row t scene origin) (outcome_of_phaser_row row t program scene)
phaser_row_fares (Preg into p) program steps t scene origin stands counts =
    bulk_fares steps t p (pos 1) into scene origin stands.sound.trees stands.named counts
phaser_row_fares row program steps t scene origin stands counts = search (rules, bulk_fares, arrival_fares, aside_fares, fares_on, force-ends, force-numbers, stands_after_force, fares_same)

-- `ret` out of a routine: the phase ends, or the tree was terminated meanwhile
routine_end_fares : (ended : Bool) (program : Program) (steps t root row : ℕ) (registers : List ℤ) (manner : Manner) (ends : Bool)
    (scene after : Scene) (origin : Origin) → after.phasers ≡ scene.phasers → (flat_at scene.phasers root).ended ≡ ended
    → StandsAt program steps t scene status.Runs Ret → top_of (thread_at scene t).stack ≡ Some (frame.Advance root registers row)
    → AreTallied scene.phasers origin → FaresTo scene origin (Some (outcome_of_routine_end ended manner root ends t after))
routine_end_fares true program steps t root row registers manner ends scene after origin same end stands is counts = grind (arith, aside_fares)
routine_end_fares false program steps t root row registers manner ends scene after origin same end stands is counts =
    let phasers = scene.phasers in
    let can = can_turn_on_top program steps t root row registers scene stands.sound stands.few stands.there is end in
    subst (λ (before : List PhaserState). Fares phasers (after_phase_end root ends before) origin) (sym same)
    (fares_ended root ends phasers phasers origin stands.sound.trees.forest can (trees_same steps phasers stands.sound.trees).places refl
    (λ id. refl) (λ id. refl) counts)

ret_fares : (top : Option Frame) (program : Program) (steps t : ℕ) (scene : Scene) (origin : Origin)
    → StandsAt program steps t scene status.Runs Ret → top_of (thread_at scene t).stack ≡ top → AreTallied scene.phasers origin
    → FaresTo scene origin (Some (outcome_of_ret top t program scene))
ret_fares (Some (frame.Advance root registers row)) program steps t scene origin stands is counts =
    routine_end_fares (flat_at scene.phasers root).ended program steps t root row registers (manner_of (row_at program.rows row))
    (not (int_eq (value_in (thread_at scene t).registers R0) (pos 0))) scene
    (with_thread (left_routine registers row (thread_at scene t)) t scene) origin refl refl stands is counts
ret_fares _ program steps t scene origin stands is counts = fares_same scene.phasers origin counts

call_row_fares : (row : Row) (program : Program) (steps t : ℕ) (scene : Scene) (origin : Origin)
    → StandsAt program steps t scene status.Runs row → AreTallied scene.phasers origin
    → FaresTo scene origin (outcome_of_call_row row t program scene)
call_row_fares Ret program steps t scene origin stands counts =
    ret_fares (top_of (thread_at scene t).stack) program steps t scene origin stands refl counts
call_row_fares _ program steps t scene origin stands counts = fares_same scene.phasers origin counts

-- rows of other groups count nothing
uncounted : (row : Row) (t : ℕ) (scene : Scene) (origin : Origin) (outcome : Option Outcome) → group_of row ≢ Phasers
    → FaresTo scene origin outcome → FaresTo scene (with_row row t scene origin) outcome
uncounted row t scene origin outcome other fares = search rules

row_fares : (group : Group) (row : Row) (program : Program) (steps t : ℕ) (scene : Scene) (origin : Origin) → group_of row ≡ group
    → StandsAt program steps t scene status.Runs row → AreTallied scene.phasers origin
    → FaresTo scene (with_row row t scene origin) (outcome_in_group group row t program scene)
row_fares Own row program steps t scene origin is stands counts = grind (arith, uncounted, aside_fares, own_aside)
row_fares Calls row program steps t scene origin is stands counts =
    uncounted row t scene origin (outcome_of_call_row row t program scene) (λ other. cc (is, other))
    (call_row_fares row program steps t scene origin stands counts)
row_fares Data row program steps t scene origin is stands counts = grind (arith, uncounted, aside_fares, data_aside)
row_fares Phasers row program steps t scene origin is stands counts = phaser_row_fares row program steps t scene origin stands counts
row_fares Getters row program steps t scene origin is stands counts =
    uncounted row t scene origin (outcome_of_getter_row row t scene) (λ other. cc (is, other))
    (aside_fares (outcome_of_getter_row row t scene) scene origin (getter_aside row t scene) counts)
row_fares Barriers row program steps t scene origin is stands counts =
    uncounted row t scene origin (outcome_of_barrier_row row t program scene) (λ other. cc (is, other))
    (aside_fares (outcome_of_barrier_row row t program scene) scene origin (barrier_aside row t program scene) counts)

-- a thread's turn, by its status
pub turn_fares : (state : Status) (row : Row) (program : Program) (steps t : ℕ) (scene : Scene) (origin : Origin)
    → StandsAt program steps t scene state row → AreTallied scene.phasers origin
    → FaresTo scene (with_turn state row t scene origin) (outcome_in state row t program scene)
turn_fares status.Runs row program steps t scene origin stands counts =
    row_fares (group_of row) row program steps t scene origin refl stands counts
turn_fares state row program steps t scene origin stands counts = grind (arith, row_fares, aside_fares, phase_wait_aside, barrier_wait_aside, fares_same)
