-- What a turn may change besides its own thread, what is saved of a scene before the turn, and the scene that this restores.
use Rattle.std.specs.Prelude.{◌≡◌, ℕ, ◌<◌, List, length, slice_set, Option, Some}
use Rattle.instruction_table.specs.declared.row.Row.{Row}
use Rattle.instruction_table.specs.declared.row.Row.TheVariants.{Ret, Sts, Intr, Preg, Pbulk, Parr, Pdereg, Paaa, Pforce, Cawait, Cawaitt, Creset}
use Rattle.tier_tree.specs.{Stored.Stored, Stored.ChangedAt, Undo.saved_of, Undo.IsSavedOf, Undo.restored}
use Rattle.loader.specs.Program.{Program, row_at}
use Rattle.thread_state.specs.{declared.frame.Frame.Frame, declared.status.Status.Status, Thread.ThreadState, Thread.top_of}
use Rattle.thread_state.specs.declared.frame.Frame.TheVariants as frame
use Rattle.thread_state.specs.declared.status.Status.TheVariants as status
use Rattle.thread_state.specs.Undo as own
use Rattle.machine_scene.specs.declared.{ready_set.ReadySet.ReadySet, reach.Reach.Reach, note.Touched.Touched}
use Rattle.machine_scene.specs.Scene.{Scene, StoredScene, scene_of, thread_at, cell_at, barrier_at}
use Rattle.machine_scene.specs.declared.reach.Reach.TheVariants as reach
use Rattle.machine_scene.specs.declared.note.Touched.TheVariants as touched

-- a pop, by the entry that it pops
abbrev pub reach_of_entry : Option Frame → Reach
reach_of_entry (Some (frame.Action b registers row)) = reach.Barrier b
reach_of_entry _ = reach.Nothing

-- `ret`, by the top entry
abbrev pub reach_of_ret : Option Frame → Reach
reach_of_ret (Some (frame.Advance root registers row)) = reach.Tree root
reach_of_ret (Some (frame.Action b registers row)) = reach.Barrier b
reach_of_ret _ = reach.Nothing

-- a row of a running thread with this top entry
abbrev pub reach_of_row : Row → Option Frame → Reach
reach_of_row Ret top = reach_of_ret top
reach_of_row (Sts from cell) top = reach.Cell cell
reach_of_row (Intr other) top = reach.Thread other
reach_of_row (Preg into p) top = reach.Tree p
reach_of_row (Pbulk into p count) top = reach.Tree p
reach_of_row (Parr into p) top = reach.Tree p
reach_of_row (Pdereg into p) top = reach.Tree p
reach_of_row (Paaa into p) top = reach.Tree p
reach_of_row (Pforce p) top = reach.Tree p
reach_of_row (Cawait into b) top = reach.Barrier b
reach_of_row (Cawaitt into b time) top = reach.Barrier b
reach_of_row (Creset b) top = reach.Barrier b
reach_of_row _ top = reach.Nothing

-- the end of a wait at a barrier
abbrev pub reach_of_wait : Row → Reach
reach_of_wait (Cawait into b) = reach.Barrier b
reach_of_wait (Cawaitt into b time) = reach.Barrier b
reach_of_wait _ = reach.Nothing

-- by the thread's status
abbrev pub reach_in : Status → Row → Option Frame → Reach
reach_in status.Runs row top = reach_of_row row top
reach_in (status.Throws code) row top = reach_of_entry top
reach_in (status.AwaitsPhase phase) row top = reach.Nothing
reach_in (status.AwaitsBarrier index) row top = reach_of_wait row
reach_in status.Ended row top = reach.Nothing
reach_in (status.Died code) row top = reach.Nothing

-- what the turn of thread t, or the expiry of its wait, may change besides the thread
abbrev pub reach_of : ℕ → Program → Scene → Reach
reach_of t program scene =
    let thread : ThreadState = thread_at scene t in reach_in thread.status (row_at program.rows thread.pc) (top_of thread.stack)

-- it exists
abbrev pub IsThere : Reach → StoredScene → Type 0
IsThere reach.Nothing stored = Unit {0}
IsThere (reach.Cell cell) stored = cell < 32
IsThere (reach.Thread other) stored = other < length stored.threads
IsThere (reach.Tree p) stored = p < length stored.phasers
IsThere (reach.Barrier b) stored = b < length stored.barriers

-- the phasers after a turn that reached only this: except for the words from one phaser up to its root, they are the same
abbrev pub PhasersWithin : Reach → List Stored → List Stored → Type 0
PhasersWithin reach.Nothing before after = after ≡ before
PhasersWithin (reach.Cell cell) before after = after ≡ before
PhasersWithin (reach.Thread other) before after = after ≡ before
PhasersWithin (reach.Tree p) before after = ChangedAt p before after
PhasersWithin (reach.Barrier b) before after = after ≡ before

-- what is saved of it
abbrev pub touched_by : Reach → StoredScene → Touched
touched_by reach.Nothing stored = touched.Nothing
touched_by (reach.Cell cell) stored = touched.Cell cell (cell_at (scene_of stored) cell)
touched_by (reach.Thread other) stored = touched.Thread other (own.note_of (thread_at (scene_of stored) other))
touched_by (reach.Tree p) stored = touched.Tree (saved_of p stored.phasers)
touched_by (reach.Barrier b) stored = touched.Barrier b (barrier_at (scene_of stored) b)

-- what is saved of a scene before a turn; the set of ready threads is saved whole
pub record Note : Type 0 where
  pub thread : ℕ
  pub before : own.Note
  pub touched : Touched
  pub ready : ReadySet

-- of this scene, before a turn of thread t or the expiry of its wait
abbrev pub note_of : ℕ → Program → StoredScene → Note
note_of t program stored = record {
  thread = t;
  before = own.note_of (thread_at (scene_of stored) t);
  touched = touched_by (reach_of t program (scene_of stored)) stored;
  ready = stored.ready;
}

-- a thread as it was
abbrev pub with_undone : own.Note → ℕ → StoredScene → StoredScene
with_undone before t stored =
    record stored { threads = slice_set stored.threads t (own.undone before (thread_at (scene_of stored) t)) }

-- what was changed, as it was
abbrev pub with_touched : Touched → StoredScene → StoredScene
with_touched touched.Nothing stored = stored
with_touched (touched.Cell cell number) stored = record stored { cells = slice_set stored.cells cell number }
with_touched (touched.Thread other before) stored = with_undone before other stored
with_touched (touched.Tree saved) stored = record stored { phasers = restored saved stored.phasers }
with_touched (touched.Barrier b before) stored = record stored { barriers = slice_set stored.barriers b before }

-- the scene before the turn
abbrev pub undone : Note → StoredScene → StoredScene
undone note stored = record (with_undone note.before note.thread (with_touched note.touched stored)) { ready = note.ready }

-- what was touched can be put back
abbrev pub CanPutBack : Touched → StoredScene → Type 0
CanPutBack touched.Nothing stored = Unit {0}
CanPutBack (touched.Cell cell number) stored = cell < 32
CanPutBack (touched.Thread other before) stored = other < length stored.threads
CanPutBack (touched.Tree saved) stored = IsSavedOf saved stored.phasers
CanPutBack (touched.Barrier b before) stored = b < length stored.barriers

-- the note is one of a turn that led to this scene
pub record CanUndo (note : Note) (stored : StoredScene) : Type 0 where
  pub there : note.thread < length stored.threads
  pub touched : CanPutBack note.touched stored
