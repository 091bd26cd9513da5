-- What stays true of a machine. For example, each object that a row uses exists. Only proofs use this: no promise depends
-- on it.
use Rattle.std.specs.Prelude.{◌≡◌, ◌≢◌, ℕ, ◌+◌, ◌<◌, ◌≤◌, ◌==◌, is_some, Option, Some, None, List, [], ◌∷◌, length, All, count_by, Bool, true, false}
use Rattle.instruction_table.specs.declared.row.Row.{Row, TheVariants.Cawait, TheVariants.Cawaitt}
use Rattle.tier_tree.specs.{Forest.phaser_at, Forest.flat_at, Forest.root_at, PhaseEnd.most_ends, Stored.phasers_of}
use Rattle.tier_tree.specs.Trees.{AreTrees, is_pending}
use Rattle.cyclic_barrier.specs.{Waits.wait_at, Barrier.has_wait}
use Rattle.loader.specs.Program.{Program, IsCode, IsNamed, row_at}
use Rattle.thread_state.specs.{declared.frame.Frame.Frame, declared.status.Status.Status, Frame.is_advance, Frame.is_action}
use Rattle.thread_state.specs.Thread.{ThreadState}
use Rattle.thread_state.specs.declared.frame.Frame.TheVariants as frame
use Rattle.thread_state.specs.declared.status.Status.TheVariants as status
use Rattle.machine_scene.specs.Scene.{Scene, StoredScene, scene_of, counts_of, counts_in, thread_at, barrier_at}

-- a stack entry leads to a row, and names a root or a barrier that exists; a row follows the one at which a routine or an
-- action began
abbrev pub IsFrame : Program → Scene → Frame → Type 0
IsFrame program scene (frame.Call row) = row < length program.rows
IsFrame program scene (frame.Handler row) = row < length program.rows
IsFrame program scene (frame.Advance root registers row) =
    (row + 1 < length program.rows) × ((root < length scene.phasers) × (root_at scene.phasers root ≡ root))
IsFrame program scene (frame.Action b registers row) = (row + 1 < length program.rows) × (b < length scene.barriers)

-- a thread is at a row, and so are its stack entries
pub record IsPlaced (program : Program) (scene : Scene) (thread : ThreadState) : Type 0 where
  pub pc : thread.pc < length program.rows
  pub stack : All (IsFrame program scene) thread.stack

-- how many stack entries of all threads pass the test
abbrev pub entries : (Frame → Bool) → List ThreadState → ℕ
entries test [] = 0
entries test (thread ∷ threads) = count_by test thread.stack + entries test threads

abbrev pub bit : Bool → ℕ
bit true = 1
bit false = 0

-- the barrier at which a thread at this row waits
abbrev pub is_wait_row : ℕ → Row → Bool
is_wait_row b (Cawait into other) = other == b
is_wait_row b (Cawaitt into other time) = other == b
is_wait_row b _ = false

-- a thread with this status at this row waits at barrier b
abbrev pub awaits : ℕ → Status → Row → Bool
awaits b status.Runs row = false
awaits b (status.Throws code) row = false
awaits b (status.AwaitsPhase phase) row = false
awaits b (status.AwaitsBarrier index) row = is_wait_row b row
awaits b status.Ended row = false
awaits b (status.Died code) row = false

abbrev pub thread_awaits : Program → ℕ → ThreadState → Bool
thread_awaits program b thread = awaits b thread.status (row_at program.rows thread.pc)

-- how many steps may have been taken before a turn: each ends at most one phase, and a forest can count so many ends of phases
abbrev pub most_before : ℕ
most_before = 2147483646

abbrev pub most_after : ℕ
most_after = most_ends

-- the program fits its scene, and each thread is at a row of it; all stacks have at most one entry of each root's routine, and
-- none unless the end of the root's phase is pending or the root is terminated; they have at most one entry of each barrier's
-- action, and none unless a thread runs it; and exactly the threads that wait at a barrier have a wait there. No tree has ended
-- more phases than steps were taken
pub record IsSound (program : Program) (steps : ℕ) (scene : Scene) : Type 0 where
  pub code : IsCode program (counts_of program scene)
  pub few_threads : length scene.threads ≤ 64
  pub few_barriers : length scene.barriers ≤ 64
  pub trees : AreTrees steps scene.phasers
  pub placed : All (IsPlaced program scene) scene.threads
  pub advances : (root : ℕ) → root < length scene.phasers → root_at scene.phasers root ≡ root
      → entries (is_advance root) scene.threads ≤ bit (is_pending (flat_at scene.phasers root))
  pub actions : (b : ℕ) → entries (is_action b) scene.threads ≤ bit (is_some (barrier_at scene b).runner)
  pub room : (b : ℕ) → b < length scene.barriers → length (barrier_at scene b).waits ≡ 64
  pub waits : (b t : ℕ) → has_wait t (barrier_at scene b) ≡ thread_awaits program b (thread_at scene t)

-- a thread that waits at a barrier has a wait at the one that its row names, and no other thread has a wait anywhere
abbrev pub HasItsWait : Status → Row → ℕ → Scene → Type 0
HasItsWait status.Runs row t scene = (b : ℕ) → wait_at (barrier_at scene b).waits t ≡ None
HasItsWait (status.Throws code) row t scene = (b : ℕ) → wait_at (barrier_at scene b).waits t ≡ None
HasItsWait (status.AwaitsPhase phase) row t scene = (b : ℕ) → wait_at (barrier_at scene b).waits t ≡ None
HasItsWait (status.AwaitsBarrier index) row t scene =
    (b : ℕ) → is_wait_row b row ≡ true → wait_at (barrier_at scene b).waits t ≢ None
HasItsWait status.Ended row t scene = (b : ℕ) → wait_at (barrier_at scene b).waits t ≡ None
HasItsWait (status.Died code) row t scene = (b : ℕ) → wait_at (barrier_at scene b).waits t ≡ None

-- what a look at the wait of thread t at this row may count on
pub record SeesWait (row : Row) (t : ℕ) (stored : StoredScene) : Type 0 where
  pub named : IsNamed (counts_in stored) row
  pub waits : HasItsWait (thread_at (scene_of stored) t).status row t (scene_of stored)

-- thread t exists, and the number of the next row is one that a row can have
pub record CanPlay (t : ℕ) (stored : StoredScene) : Type 0 where
  pub thread : t < length stored.threads
  pub place : (thread_at (scene_of stored) t).pc < 65535

-- what a turn of thread t at this row may count on
pub record StandsAt (program : Program) (row : Row) (t : ℕ) (stored : StoredScene) : Type 0 where
  pub plays : CanPlay t stored
  pub sees : SeesWait row t stored
  pub routines : length program.routines ≡ length stored.phasers
  pub actions : length program.actions ≡ length stored.barriers
  pub ends : (p : ℕ) → (phaser_at (phasers_of stored.phasers) p).ends < most_after

-- what is known of the top entry of a stack: a routine's root exists, and the end of its phase is pending or it is terminated;
-- a thread runs the action; and a row follows the one at which either began
abbrev pub IsTop : Program → StoredScene → Option Frame → Type 0
IsTop program stored None = Unit {0}
IsTop program stored (Some (frame.Call row)) = Unit {0}
IsTop program stored (Some (frame.Handler row)) = Unit {0}
IsTop program stored (Some (frame.Advance root registers row)) =
    ((row + 1 < length program.rows) × (root < length stored.phasers))
    × ((root_at (phasers_of stored.phasers) root ≡ root)
    × (is_pending (flat_at (phasers_of stored.phasers) root) ≡ true))
IsTop program stored (Some (frame.Action b registers row)) =
    ((row + 1 < length program.rows) × (b < length stored.barriers))
    × (is_some (barrier_at (scene_of stored) b).runner ≡ true)
