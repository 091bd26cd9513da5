-- A loaded program, and what is true of every loaded program: for example, each object that its rows use exists.
use Rattle.std.specs.Prelude.{◌≡◌, ℕ, ◌-◌, ◌<◌, ◌≤◌, true, false, List, [], length, map, slice_index_or, All}
use Rattle.instruction_table.specs.declared.row.Row.{Row, TheVariants.Halt}
use Rattle.tier_tree.specs.{Declaration.AreAllFresh, Forest.PhaserState, Forest.phaser_at, Origin.Origin, Origin.AreTallied}
use Rattle.tier_tree.specs.Stored.{Stored, phasers_of}
use Rattle.cyclic_barrier.specs.Barrier.{BarrierState, fresh}
use Rattle.row_code.specs.declared.{image.Image.Image, threads.DeclaredThread.DeclaredThread}
use Rattle.loader.specs.{declared.counts.Counts.Counts, declared.named.Named.Named, Named.named_by, Named.stops}
use Rattle.loader.specs.Declarations.{forest_of, declared_origin, routine_row, new_barrier, action_row}
use Rattle.loader.specs.declared.named.Named.TheVariants as named

-- the rows; the threads; the phasers in their trees, as they are stored, and the row of each one's
-- routine; the barriers, and the row of each one's action
pub record Program : Type 0 where
  pub rows : List Row
  pub threads : List DeclaredThread
  pub phasers : List Stored
  pub routines : List ℕ
  pub barriers : List BarrierState
  pub actions : List ℕ

-- a program without how its phasers are stored: no row depends on that
abbrev pub without_words : Program → Program
without_words program = record program { phasers = [] }

-- the program that an image declares, without how its phasers are stored
abbrev pub program_of : Image → Program
program_of image = record {
  rows = image.rows;
  threads = image.threads;
  phasers = [];
  routines = map routine_row image.phasers;
  barriers = map new_barrier image.barriers;
  actions = map action_row image.barriers;
}

-- how many there are of each thing that a row may name
abbrev pub counts_of : Program → Counts
counts_of program = record {
  rows = length program.rows;
  threads = length program.threads;
  phasers = length program.phasers;
  barriers = length program.barriers;
}

-- the object exists
abbrev pub IsThere : Counts → Named → Type 0
IsThere counts named.Nothing = Unit {0}
IsThere counts (named.Target row) = row < counts.rows
IsThere counts (named.Cell cell) = cell < 32
IsThere counts (named.Thread thread) = thread < counts.threads
IsThere counts (named.Phaser phaser) = phaser < counts.phasers
IsThere counts (named.Barrier barrier) = barrier < counts.barriers

-- what the row names exists
abbrev pub IsNamed : Counts → Row → Type 0
IsNamed counts row = IsThere counts (named_by row)

-- the row of this number
abbrev pub row_at : List Row → ℕ → Row
row_at rows n = slice_index_or rows n Halt

-- the rows name what exists, and no thread goes on after the last one; each phaser has a row for its routine, and each barrier
-- one for its action
pub record IsCode (program : Program) (counts : Counts) : Type 0 where
  pub few : length program.rows < 65536
  pub named : All (IsNamed counts) program.rows
  pub last : stops (row_at program.rows (length program.rows - 1)) ≡ true
  pub routines : All (λ row. row < length program.rows) program.routines
  pub actions : All (λ row. row < length program.rows) program.actions
  pub all_routines : length program.routines ≡ counts.phasers
  pub all_actions : length program.actions ≡ counts.barriers

-- there are 1 to 64 threads, and each begins at a row
pub record CanStart (rows : ℕ) (threads : List DeclaredThread) : Type 0 where
  pub some : 0 < length threads
  pub few : length threads ≤ 64
  pub begin : All (λ (thread : DeclaredThread). thread.first_row < rows) threads

-- no phase has ended or is about to end, nobody has arrived yet, and every phaser counts those who
-- registered with it directly and its children
pub record AreNewTrees (phasers : List PhaserState) : Type 0 where
  pub fresh : AreAllFresh phasers
  pub ends : (id : ℕ) → (phaser_at phasers id).ends ≡ 0
  pub stands : (origin : Origin) × ((root : ℕ) → origin.stray root ≡ false) × AreTallied phasers origin

-- a barrier at which nothing has happened yet
abbrev pub IsNewBarrier : BarrierState → Type 0
IsNewBarrier barrier = barrier ≡ fresh barrier.parties barrier.action

-- there are at most 64 barriers, and each is new
pub record AreNewBarriers (barriers : List BarrierState) : Type 0 where
  pub few : length barriers ≤ 64
  pub fresh : All IsNewBarrier barriers

-- what is true of every program that was loaded
pub record IsProgram (program : Program) : Type 0 where
  pub code : IsCode program (counts_of program)
  pub threads : CanStart (length program.rows) program.threads
  pub phasers : AreNewTrees (phasers_of program.phasers)
  pub barriers : AreNewBarriers program.barriers

-- the program is the one that the image declares
pub record IsProgramOf (image : Image) (program : Program) : Type 0 where
  pub rows : program.rows ≡ image.rows
  pub threads : program.threads ≡ image.threads
  pub phasers : phasers_of program.phasers ≡ forest_of image.phasers
  pub origin : AreTallied (phasers_of program.phasers) (declared_origin image.phasers)
  pub routines : program.routines ≡ map routine_row image.phasers
  pub barriers : program.barriers ≡ map new_barrier image.barriers
  pub actions : program.actions ≡ map action_row image.barriers
