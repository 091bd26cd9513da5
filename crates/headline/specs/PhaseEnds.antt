-- Where a phase ends, and why a phaser is terminated.
use Rattle.std.specs.Prelude.{◌≡◌, ◌≢◌, ◌<◌, ◌==◌, ◌||◌, ◌⊎◌, ◌↔◌, if◌then◌else◌, ℕ, ℤ, pos, not, Bool, true, false, List, length, Option, Some, None}
use Rattle.std.specs.Ordering.{int_eq}
use Rattle.instruction_table.specs.{declared.row.Row.Row, declared.register.Reg.TheVariants.R0, Registers.value_in}
use Rattle.instruction_table.specs.declared.row.Row.TheVariants.{Ret, Parr, Pdereg, Paaa, Pforce}
use Rattle.phase_number.specs.Phase.{next_phase}
use Rattle.packed_phaser.specs.Policy.{ends}
use Rattle.tier_tree.specs.Forest.{PhaserState, phaser_at, flat_at, root_at}
use Rattle.tier_tree.specs.Origin.{Origin, HaveAllArrived}
use Rattle.thread_state.specs.{declared.status.Status.Status, declared.frame.Frame.Frame, Thread.ThreadState, Thread.top_of}
use Rattle.thread_state.specs.declared.status.Status.TheVariants as status
use Rattle.thread_state.specs.declared.frame.Frame.TheVariants as frame
use Rattle.loader.specs.Program.{row_at}
use Rattle.machine_scene.specs.{PhaserRows.is_routine_policy, PhaserRows.refusal_of_arrival, Scene.thread_at}
use Rattle.thread_machine.specs.{declared.choice.Choice.Choice, DirectCounts.counts_at_end, DirectCounts.has_ended_phase}
use Rattle.thread_machine.specs.World.{World}

-- the row that a thread plays: that of one that runs
abbrev pub row_in : Status → Row → Option Row
row_in status.Runs row = Some row
row_in _ row = None

-- the row that a choice plays, if it plays one
abbrev pub row_of : World → Choice → Option Row
row_of world choice =
    let thread = thread_at world.scene choice.thread in
    if choice.expiry then None else row_in thread.status (row_at world.program.rows thread.pc)

-- the row is `pforce` at a phaser of this root's tree
abbrev pub is_force : Option Row → ℕ → List PhaserState → Bool
is_force (Some (Pforce p)) root phasers = root_at phasers p == root
is_force _ root phasers = false

-- What the root's policy returns for an arrival at phaser p that ends a phase of this root and leaves it so many parties. A
-- routine has no result yet, and an arrival in another tree has none.
abbrev pub answer_at : ℕ → ℕ → List PhaserState → (parties : ℕ) → Option Bool
answer_at p root phasers parties =
    if root_at phasers p == root then ends (phaser_at phasers root).policy (flat_at phasers root).phase parties else None

-- What `ret` returns, by the top entry: for this root's routine, any number but 0 in the thread's first register is true.
-- Leaving a call, an action or another root's routine returns nothing.
abbrev pub answer_of_ret : Option Frame → ℕ → ThreadState → Option Bool
answer_of_ret (Some (frame.Advance own registers row)) root thread =
    if own == root then Some (not (int_eq (value_in thread.registers R0) (pos 0))) else None
answer_of_ret _ root thread = None

-- What `onAdvance` returns if this row ends a phase of this root and leaves it so many parties. Nothing is returned for any
-- other row, nor for a turn or an expiry without a row: one that waits, throws or pops an entry.
abbrev pub on_advance : Option Row → ThreadState → ℕ → List PhaserState → (parties : ℕ) → Option Bool
on_advance (Some (Parr into p)) thread root phasers parties = answer_at p root phasers parties
on_advance (Some (Pdereg into p)) thread root phasers parties = answer_at p root phasers parties
on_advance (Some (Paaa into p)) thread root phasers parties = answer_at p root phasers parties
on_advance (Some Ret) thread root phasers parties = answer_of_ret (top_of thread.stack) root thread
on_advance _ thread root phasers parties = None

-- A phase ends only in a tree that isn't terminated, and at a row for which `onAdvance` returns a result. Then each phaser of
-- the tree is terminated exactly if the result is true. If no phase of its tree ends, a phaser is terminated afterwards exactly
-- if it was before, or if the row is `pforce` in its tree.
abbrev pub TerminateAsSaid : Option Row → ThreadState → List PhaserState → List PhaserState → Type 0
TerminateAsSaid row thread before after =
    (id : ℕ) → id < length before
    → let root = root_at before id in
    (has_ended_phase root before after ≡ true
    → ((flat_at before id).ended ≡ false)
    × (on_advance row thread root before (flat_at after root).parties ≡ Some (flat_at after id).ended))
    × (has_ended_phase root before after ≡ false
    → (flat_at after id).ended ≡ ((flat_at before id).ended || is_force row root before))

-- If a phase of its tree ends, a phaser comes into the phase after that of its root, terminated or not.
abbrev pub NumbersGoOn : List PhaserState → List PhaserState → Type 0
NumbersGoOn before after =
    (id : ℕ) → id < length before → has_ended_phase (root_at before id) before after ≡ true
    → (flat_at after id).phase ≡ next_phase (flat_at before (root_at before id)).phase

-- the top entry of the thread's stack is the routine of this root
abbrev pub IsInRoutine : ℕ → ThreadState → Type 0
IsInRoutine root thread = (registers : List ℤ) × ((row : ℕ) × (top_of thread.stack ≡ Some (frame.Advance root registers row)))

-- by the counts before a choice and at it: somebody registered with this root's tree was still to arrive, and now nobody is
abbrev pub HasLastArrived : (before at : Origin) → ℕ → List PhaserState → Type 0
HasLastArrived before at root phasers =
    ((id : ℕ) × ((id < length phasers) × ((root_at phasers id ≡ root) × (0 < before.unarrived id))))
    × HaveAllArrived at root phasers

-- A choice with which the last of those registered with a tree arrives or leaves ends a phase of the tree, or its thread now
-- runs the tree's routine, which is to end it. A tree that is terminated, and one that has had a stray arrival, are excluded.
abbrev pub EndsInTime : World → Choice → World → Origin → Type 0
EndsInTime before choice after counts =
    let trees = before.scene.phasers in
    let at = counts_at_end before choice counts in
    (root : ℕ) → root < length trees → (flat_at trees root).ended ≡ false → at.stray root ≡ false
    → HasLastArrived counts at root trees
    → (has_ended_phase root trees after.scene.phasers ≡ true)
    ⊎ ((is_routine_policy (phaser_at trees root).policy ≡ true) × IsInRoutine root (thread_at after.scene choice.thread))

-- `ret` out of a routine ends a phase of its tree, unless that was terminated meanwhile.
abbrev pub RoutineEnds : World → Choice → World → Type 0
RoutineEnds before choice after =
    (root : ℕ) → row_of before choice ≡ Some Ret → IsInRoutine root (thread_at before.scene choice.thread)
    → (flat_at before.scene.phasers root).ended ≡ false
    → has_ended_phase root before.scene.phasers after.scene.phasers ≡ true

-- everybody who registered with this root's tree has left
abbrev pub HaveAllLeft : Origin → ℕ → List PhaserState → Type 0
HaveAllLeft counts root phasers =
    (id : ℕ) → id < length phasers → root_at phasers id ≡ root → counts.registered id ≡ 0

-- If a choice ends a phase of a tree without stray arrivals, the root has no party left, which is what `onAdvance` gets,
-- exactly if everybody who was declared or registered with the tree has left.
abbrev pub AreCounted : World → Choice → World → Origin → Type 0
AreCounted before choice after counts =
    let trees = before.scene.phasers in
    let at = counts_at_end before choice counts in
    (root : ℕ) → root < length trees → root_at trees root ≡ root → has_ended_phase root trees after.scene.phasers ≡ true
    → at.stray root ≡ false
    → ((flat_at after.scene.phasers root).parties ≡ 0) ↔ HaveAllLeft at root trees

-- the row is an arrival at this phaser
abbrev pub ArrivesAt : Option Row → ℕ → Type 0
ArrivesAt (Some (Parr into at)) p = at ≡ p
ArrivesAt (Some (Pdereg into at)) p = at ≡ p
ArrivesAt (Some (Paaa into at)) p = at ≡ p
ArrivesAt _ p = ⊥

-- If by the counts somebody registered is still to arrive at a phaser whose tree isn't terminated and has had no stray arrival,
-- an arrival there doesn't throw, unless its thread runs the tree's routine, or has no room on its stack to enter one.
abbrev pub TakesArrivals : World → Choice → World → Origin → Type 0
TakesArrivals before choice after counts =
    let trees = before.scene.phasers in
    (p : ℕ) → ArrivesAt (row_of before choice) p → refusal_of_arrival p (thread_at before.scene choice.thread) before.scene ≡ None
    → (flat_at trees p).ended ≡ false → counts.stray (root_at trees p) ≡ false → 0 < counts.unarrived p
    → (code : ℤ) → (thread_at after.scene choice.thread).status ≢ status.Throws code
