-- Rows that register at a phaser, arrive, wait or terminate.
use Rattle.std.specs.Prelude.{ℕ, ℤ, pos, ◌&&◌, not, nat_abs, int_lt, Bool, true, false, if◌then◌else◌, Option, Some, None}
use Rattle.std.specs.{Ordering.int_eq, List.list_any}
use Rattle.instruction_table.specs.{declared.row.Row.Row, declared.register.Reg.Reg, Registers.value_in}
use Rattle.instruction_table.specs.declared.row.Row.TheVariants.{Preg, Pbulk, Parr, Pdereg, Paaa, Pawait, Pawaiti, Pawaitt, Pforce}
use Rattle.packed_phaser.specs.{declared.policy.Policy.Policy, Flat.Flat, Flat.view_of, Policy.ends}
use Rattle.packed_phaser.specs.declared.policy.Policy.TheVariants as policy
use Rattle.tier_tree.specs.declared.{registered.Registered.Registered, arrived.Arrived.Arrived}
use Rattle.tier_tree.specs.{Forest.phaser_at, Forest.flat_at, Forest.root_at, Arrival.Arrives, Arrival.arrival}
use Rattle.tier_tree.specs.Registration.{registration, after_registration}
use Rattle.tier_tree.specs.PhaseEnd.{after_phase_end, after_force}
use Rattle.tier_tree.specs.declared.registered.Registered.TheVariants as registered
use Rattle.tier_tree.specs.declared.arrived.Arrived.TheVariants as arrived
use Rattle.loader.specs.Program.{Program}
use Rattle.thread_state.specs.declared.event.Mark.TheVariants as mark
use Rattle.thread_state.specs.Frame.{is_advance}
use Rattle.thread_state.specs.Thread.{ThreadState, Turn, turn_of_throw, turn_of_interruption, turn_of_answer, turn_of_done, turn_of_wait, turn_of_advance, is_full}
use Rattle.machine_scene.specs.{declared.manner.Manner.Manner, declared.patience.Patience.Patience, Manner.manner_of}
use Rattle.machine_scene.specs.Scene.{Scene, Outcome, thread_at, routine_at, with_phasers, outcome_of_turn, outcome_marked, alone}
use Rattle.machine_scene.specs.declared.patience.Patience.TheVariants as patience

-- the thread runs the advance routine of this phaser's tree
abbrev pub is_own_tree : ℕ → ThreadState → Scene → Bool
is_own_tree p thread scene = list_any (is_advance (root_at scene.phasers p)) thread.stack

-- the policy is a routine of the program
abbrev pub is_routine_policy : Policy → Bool
is_routine_policy policy.Routine = true
is_routine_policy _ = false

-- this phaser's tree has a routine: only its root's policy counts
abbrev pub has_routine : ℕ → Scene → Bool
has_routine p scene = is_routine_policy (phaser_at scene.phasers (root_at scene.phasers p)).policy

-- what the policy of a root returns; for a routine there is no result yet
abbrev pub answer_of_policy : ℕ → Scene → Option Bool
answer_of_policy root scene =
    let flat : Flat = flat_at scene.phasers root in ends (phaser_at scene.phasers root).policy flat.phase flat.parties

-- a phase of this root has just ended: the arrival that ended it returns the number of that phase, or the view if the arrival
-- waits
abbrev pub outcome_of_ended_phase : Manner → ℕ → ℤ → ℕ → Scene → Outcome
outcome_of_ended_phase manner root phase t scene =
    let view = view_of (flat_at scene.phasers root) in
    outcome_marked (mark.Phase root view)
    (turn_of_answer manner.into (if manner.waits then view else phase) (thread_at scene t)) t scene

-- the pending phase of a root ends
abbrev pub outcome_of_phase_end : Manner → ℕ → ℤ → Bool → ℕ → Scene → Outcome
outcome_of_phase_end manner root phase terminates t scene =
    outcome_of_ended_phase manner root phase t (with_phasers (after_phase_end root terminates scene.phasers) scene)

-- the end of a root's phase is pending after an arrival: the phase ends in the same step if the root's policy returns a result,
-- and otherwise the routine is entered
abbrev pub outcome_of_pending_end : Option Bool → Manner → ℕ → ℤ → ℕ → Program → Scene → Outcome
outcome_of_pending_end (Some terminates) manner root phase t program scene =
    outcome_of_phase_end manner root phase terminates t scene
outcome_of_pending_end None manner root phase t program scene =
    outcome_of_turn
    (turn_of_advance root phase (flat_at scene.phasers root).parties (routine_at program root) (thread_at scene t)) t scene

-- a counted arrival waits for the end of the phase, or returns its phase
abbrev pub turn_of_arrival : Manner → ℤ → ThreadState → Turn
turn_of_arrival manner phase thread =
    if manner.waits then turn_of_wait phase thread else turn_of_answer manner.into phase thread

-- by what the arrival came to
abbrev pub outcome_of_arrived : Arrived → Manner → ℕ → Program → Scene → Outcome
outcome_of_arrived (arrived.At phase) manner t program scene = alone (turn_of_arrival manner phase) t scene
outcome_of_arrived (arrived.Turning root phase parties) manner t program scene =
    outcome_of_pending_end (answer_of_policy root.0 scene) manner root.0 phase t program scene
outcome_of_arrived (arrived.Dead view) manner t program scene = alone (turn_of_answer manner.into view) t scene
outcome_of_arrived arrived.NotThere manner t program scene = alone (turn_of_throw (pos 1)) t scene

-- thread t arrives at phaser p
abbrev pub outcome_with_room : Manner → ℕ → ℕ → Program → Scene → Outcome
outcome_with_room manner p t program scene =
    let all : Arrives = arrival p manner.leaves scene.phasers in
    outcome_of_arrived all.answer manner t program (with_phasers all.phasers scene)

-- in a tree with a routine an arrival needs room for one more stack entry, whatever its result would be
abbrev pub outcome_of_arrival : Manner → ℕ → ℕ → Program → Scene → Outcome
outcome_of_arrival manner p t program scene =
    if has_routine p scene && is_full (thread_at scene t)
    then outcome_of_turn (turn_of_throw (pos 6) (thread_at scene t)) t scene
    else outcome_with_room manner p t program scene

-- the exception of a refused arrival at phaser p: the thread runs the routine of that tree, or has no room for one on its stack
abbrev pub refusal_of_arrival : ℕ → ThreadState → Scene → Option ℤ
refusal_of_arrival p thread scene =
    if is_own_tree p thread scene then Some (pos 1)
    else (if has_routine p scene && is_full thread then Some (pos 6) else None)

-- the outcome of a registration, by its result; one that would have to wait isn't ready
abbrev pub outcome_of_registered : Registered → Reg → ℕ → Scene → Option Outcome
outcome_of_registered (registered.At phase) into t scene = Some (alone (turn_of_answer into phase) t scene)
outcome_of_registered (registered.Dead view) into t scene = Some (alone (turn_of_answer into view) t scene)
outcome_of_registered registered.TooMany into t scene = Some (alone (turn_of_throw (pos 1)) t scene)
outcome_of_registered registered.Held into t scene = None

-- thread t registers parties with phaser p
abbrev pub outcome_of_registration : Reg → ℕ → ℕ → ℕ → Scene → Option Outcome
outcome_of_registration into p count t scene =
    outcome_of_registered (registration p count scene.phasers) into t
    (with_phasers (after_registration p count scene.phasers) scene)

-- `bulkRegister`: a count below 0 is exception 2
abbrev pub outcome_of_bulk : Reg → ℕ → ℤ → ℕ → Scene → Option Outcome
outcome_of_bulk into p count t scene =
    if int_lt count (pos 0) then Some (outcome_of_turn (turn_of_throw (pos 2) (thread_at scene t)) t scene)
    else outcome_of_registration into p (nat_abs count) t scene

-- a phase of this number isn't the one that phaser p is in
abbrev pub is_past : ℕ → ℤ → Scene → Bool
is_past p phase scene = not (int_eq (view_of (flat_at scene.phasers p)) phase)

-- an interrupt is noticed before the wait begins, if the wait can be interrupted; then a time of 0 or less is over
abbrev pub turn_of_patience : Patience → ℤ → ThreadState → Turn
turn_of_patience patience.Endless phase thread = turn_of_wait phase thread
turn_of_patience patience.Interruptible phase thread =
    if thread.interrupted then turn_of_interruption thread else turn_of_wait phase thread
turn_of_patience (patience.Timed time) phase thread =
    if thread.interrupted then turn_of_interruption thread
    else (if int_lt (pos 0) time then turn_of_wait phase thread else turn_of_throw (pos 5) thread)

-- a thread asks to wait for the end of a phase, and this is the view: a negative number is its own result, and if the phase is
-- a different one, the view is the result
abbrev pub turn_of_await : Patience → Reg → ℤ → ℤ → ThreadState → Turn
turn_of_await patience into phase view thread =
    if int_lt phase (pos 0) then turn_of_answer into phase thread
    else (if not (int_eq view phase) then turn_of_answer into view thread else turn_of_patience patience phase thread)

-- thread t asks it of phaser p
abbrev pub outcome_of_await : Patience → Reg → ℕ → ℤ → ℕ → Scene → Outcome
outcome_of_await patience into p phase t scene =
    alone (turn_of_await patience into phase (view_of (flat_at scene.phasers p))) t scene

-- thread t terminates the tree of phaser p; if it is terminated already, nothing changes
abbrev pub outcome_of_force : ℕ → ℕ → Scene → Outcome
outcome_of_force p t scene =
    let root = root_at scene.phasers p in
    let after : Scene = with_phasers (after_force p scene.phasers) scene in
    outcome_marked
    (if (flat_at scene.phasers p).ended then mark.Nothing else mark.Phase root (view_of (flat_at after.phasers root)))
    (turn_of_done (thread_at after t)) t after

-- a row at a phaser of a tree whose routine the thread itself runs is exception 1
abbrev pub unless_own : ℕ → ℕ → Scene → Option Outcome → Option Outcome
unless_own p t scene outcome =
    if is_own_tree p (thread_at scene t) scene then Some (outcome_of_turn (turn_of_throw (pos 1) (thread_at scene t)) t scene)
    else outcome

-- what such a row does; a row of another group has no outcome here
abbrev pub outcome_of_phaser_row : Row → ℕ → Program → Scene → Option Outcome
outcome_of_phaser_row (Preg into p) t program scene = unless_own p t scene (outcome_of_registration into p 1 t scene)
outcome_of_phaser_row (Pbulk into p count) t program scene =
    unless_own p t scene (outcome_of_bulk into p (value_in (thread_at scene t).registers count) t scene)
outcome_of_phaser_row (Parr into p) t program scene =
    unless_own p t scene
    (Some (outcome_of_arrival (manner_of (Parr into p)) p t program scene))
outcome_of_phaser_row (Pdereg into p) t program scene =
    unless_own p t scene
    (Some (outcome_of_arrival (manner_of (Pdereg into p)) p t program scene))
outcome_of_phaser_row (Paaa into p) t program scene =
    unless_own p t scene
    (Some (outcome_of_arrival (manner_of (Paaa into p)) p t program scene))
outcome_of_phaser_row (Pawait into p phase) t program scene =
    unless_own p t scene
    (Some (outcome_of_await patience.Endless into p (value_in (thread_at scene t).registers phase) t scene))
outcome_of_phaser_row (Pawaiti into p phase) t program scene =
    unless_own p t scene
    (Some (outcome_of_await patience.Interruptible into p (value_in (thread_at scene t).registers phase) t scene))
outcome_of_phaser_row (Pawaitt into p phase time) t program scene =
    unless_own p t scene
    (Some (outcome_of_await (patience.Timed (value_in (thread_at scene t).registers time)) into p
    (value_in (thread_at scene t).registers phase) t scene))
outcome_of_phaser_row (Pforce p) t program scene = Some (outcome_of_force p t scene)
outcome_of_phaser_row _ t program scene = None
