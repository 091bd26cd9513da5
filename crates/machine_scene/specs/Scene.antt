-- What the rows of a program act on, and how a turn changes it.
use Rattle.std.specs.Prelude.{ℕ, ℤ, pos, false, List, [], length, map, replicate, slice_index_or, slice_set}
use Rattle.tier_tree.specs.{Forest.PhaserState, Stored.Stored, Stored.phasers_of}
use Rattle.cyclic_barrier.specs.Barrier.{BarrierState, fresh}
use Rattle.row_code.specs.declared.threads.DeclaredThread.{DeclaredThread}
use Rattle.loader.specs.{declared.counts.Counts.Counts, Program.Program}
use Rattle.thread_state.specs.declared.event.{Event.Event, Mark.Mark}
use Rattle.thread_state.specs.Thread.{ThreadState, Turn, new_thread}
use Rattle.thread_state.specs.declared.event.Mark.TheVariants as mark
use Rattle.thread_state.specs.declared.status.Status.TheVariants as status
use Rattle.machine_scene.specs.declared.ready_set.ReadySet.{ReadySet}

-- the shared cells, the threads, the phasers in their trees, and the barriers
pub record Scene : Type 0 where
  pub cells : List ℤ
  pub threads : List ThreadState
  pub phasers : List PhaserState
  pub barriers : List BarrierState

-- the same with the phasers as they are stored: the word of a child may be that of an earlier phase; and besides, as sets, the
-- threads whose turn is ready
pub record StoredScene : Type 0 where
  pub cells : List ℤ
  pub threads : List ThreadState
  pub phasers : List Stored
  pub barriers : List BarrierState
  pub ready : ReadySet

-- what it shows at present; everything that is said of a row is about this
abbrev pub scene_of : StoredScene → Scene
scene_of stored = record {
  cells = stored.cells;
  threads = stored.threads;
  phasers = phasers_of stored.phasers;
  barriers = stored.barriers;
}

-- the scene after a turn, and the turn's event
pub record Outcome : Type 0 where
  pub scene : Scene
  pub event : Event

-- how many there are of each thing that a row may name
abbrev pub counts_of : Program → Scene → Counts
counts_of program scene = record {
  rows = length program.rows;
  threads = length scene.threads;
  phasers = length scene.phasers;
  barriers = length scene.barriers;
}

-- the same of a stored scene, whatever its program: each has fewer than 65536 rows
abbrev pub counts_in : StoredScene → Counts
counts_in stored = record {
  rows = 65536;
  threads = length stored.threads;
  phasers = length stored.phasers;
  barriers = length stored.barriers;
}

-- a thread that no program has
abbrev pub no_thread : ThreadState
no_thread = record { pc = 0; registers = []; stack = []; status = status.Ended; interrupted = false; output = [] }

-- the thread of this number
abbrev pub thread_at : Scene → ℕ → ThreadState
thread_at scene t = slice_index_or scene.threads t no_thread

-- the number in the cell of this number
abbrev pub cell_at : Scene → ℕ → ℤ
cell_at scene cell = slice_index_or scene.cells cell (pos 0)

-- the barrier of this number
abbrev pub barrier_at : Scene → ℕ → BarrierState
barrier_at scene b = slice_index_or scene.barriers b (fresh 1 false)

-- the row that a root's advance routine begins at
abbrev pub routine_at : Program → ℕ → ℕ
routine_at program root = slice_index_or program.routines root 0

-- the row that a barrier's action begins at
abbrev pub action_at : Program → ℕ → ℕ
action_at program b = slice_index_or program.actions b 0

-- another state of thread t
abbrev pub with_thread : ThreadState → ℕ → Scene → Scene
with_thread thread t scene = record scene { threads = slice_set scene.threads t thread }

-- another number in a cell
abbrev pub with_cell : ℤ → ℕ → Scene → Scene
with_cell number cell scene = record scene { cells = slice_set scene.cells cell number }

-- other phasers
abbrev pub with_phasers : List PhaserState → Scene → Scene
with_phasers phasers scene = record scene { phasers = phasers }

-- another state of barrier b
abbrev pub with_barrier : BarrierState → ℕ → Scene → Scene
with_barrier barrier b scene = record scene { barriers = slice_set scene.barriers b barrier }

-- a turn of thread t; the step also shows this mark
abbrev pub outcome_marked : Mark → Turn → ℕ → Scene → Outcome
outcome_marked mark turn t scene =
    record { scene = with_thread turn.thread t scene; event = record { what = turn.what; mark = mark } }

-- a turn that changes only its own thread
abbrev pub outcome_of_turn : Turn → ℕ → Scene → Outcome
outcome_of_turn turn t scene = outcome_marked mark.Nothing turn t scene

-- thread t takes this turn, and nothing else happens
abbrev pub alone : (ThreadState → Turn) → ℕ → Scene → Outcome
alone turn t scene = outcome_of_turn (turn (thread_at scene t)) t scene

-- a thread at the row that it is declared with
abbrev pub starting : DeclaredThread → ThreadState
starting thread = new_thread thread.first_row

-- the scene before the first choice: 32 cells of 0, each thread at its first row, and nobody has come to a phaser or a barrier
abbrev pub first_scene : Program → Scene
first_scene program = record {
  cells = replicate 32 (pos 0);
  threads = map starting program.threads;
  phasers = phasers_of program.phasers;
  barriers = program.barriers;
}
