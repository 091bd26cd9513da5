-- Why an image is refused: the first fault in the order of the checks.
use Rattle.std.specs.Prelude.{ℕ, ◌+◌, ◌-◌, ◌==◌, nat_lt, not, Bool, if◌then◌else◌, List, [], ◌∷◌, length, take, Option, Some, None}
use Rattle.std.specs.Option.{option_or, option_map}
use Rattle.instruction_table.specs.declared.row.Row.{Row}
use Rattle.tier_tree.specs.Forest.{PhaserState}
use Rattle.row_code.specs.declared.phasers.{DeclaredPolicy.DeclaredPolicy, DeclaredPhaser.DeclaredPhaser}
use Rattle.row_code.specs.declared.{barriers.DeclaredBarrier.DeclaredBarrier, threads.DeclaredThread.DeclaredThread}
use Rattle.row_code.specs.declared.image.Image.{Image}
use Rattle.row_code.specs.declared.phasers.DeclaredPolicy.TheVariants as declared
use Rattle.loader.specs.declared.{counts.Counts.Counts, load_fault.LoadFault.LoadFault, load_fault.Place.Place}
use Rattle.loader.specs.{declared.named.Named.Named, Named.named_by, Named.stops, Program.row_at}
use Rattle.loader.specs.Declarations.{declare_fault, forest_of}
use Rattle.loader.specs.declared.load_fault.LoadFault.TheVariants as fault
use Rattle.loader.specs.declared.load_fault.Place.TheVariants as place
use Rattle.loader.specs.declared.named.Named.TheVariants as named

-- this fault, if the test fails
abbrev pub unless : Bool → LoadFault → Option LoadFault
unless test fault = if test then None else Some fault

-- the first fault of these checks
abbrev pub earliest : List (Option LoadFault) → Option LoadFault
earliest [] = None
earliest (fault ∷ faults) = option_or fault (earliest faults)

-- the first fault of a list whose entries are numbered from n
abbrev pub earliest_in : {E : Type 0} → (ℕ → E → Option LoadFault) → ℕ → List E → Option LoadFault
earliest_in check n [] = None
earliest_in check n (entry ∷ entries) = option_or (check n entry) (earliest_in check (n + 1) entries)

-- there is no row of this number
abbrev pub target_fault : ℕ → Place → ℕ → Option LoadFault
target_fault rows place row = unless (nat_lt row rows) (fault.Target place)

-- the routine begins at no row
abbrev pub routine_fault : ℕ → ℕ → DeclaredPolicy → Option LoadFault
routine_fault rows n (declared.Routine row) = target_fault rows (place.Phaser n) row
routine_fault rows n _ = None

-- a phaser's own row has to exist, child or not, and then it is declared after these
abbrev pub phaser_fault : ℕ → List PhaserState → ℕ → DeclaredPhaser → Option LoadFault
phaser_fault rows forest n phaser =
    option_or (routine_fault rows n phaser.policy)
    (option_map (λ why. fault.Declare n why) (declare_fault forest phaser))

-- the fault of the phaser of this number in a list, after those before it
abbrev pub listed_phaser_fault : ℕ → List DeclaredPhaser → ℕ → DeclaredPhaser → Option LoadFault
listed_phaser_fault rows phasers n phaser = phaser_fault rows (forest_of (take n phasers)) n phaser

-- the action begins at no row
abbrev pub action_fault : ℕ → ℕ → Option ℕ → Option LoadFault
action_fault rows n None = None
action_fault rows n (Some row) = target_fault rows (place.Barrier n) row

-- a barrier of no parties, and then its action
abbrev pub barrier_fault : ℕ → ℕ → DeclaredBarrier → Option LoadFault
barrier_fault rows n barrier =
    option_or (unless (not (barrier.parties == 0)) (fault.BarrierParties n))
    (action_fault rows n barrier.action)

-- the thread begins at no row
abbrev pub thread_fault : ℕ → ℕ → DeclaredThread → Option LoadFault
thread_fault rows n thread = target_fault rows (place.Thread n) thread.first_row

-- what row n names isn't there; there are always 32 cells
abbrev pub named_fault : Counts → ℕ → Named → Option LoadFault
named_fault counts n named.Nothing = None
named_fault counts n (named.Target row) = target_fault counts.rows (place.Row n) row
named_fault counts n (named.Cell cell) = unless (nat_lt cell 32) (fault.NoSuchCell n)
named_fault counts n (named.Thread thread) = unless (nat_lt thread counts.threads) (fault.NoSuchThread n)
named_fault counts n (named.Phaser phaser) = unless (nat_lt phaser counts.phasers) (fault.NoSuchPhaser n)
named_fault counts n (named.Barrier barrier) =
    unless (nat_lt barrier counts.barriers) (fault.NoSuchBarrier n)

abbrev pub row_fault : Counts → ℕ → Row → Option LoadFault
row_fault counts n row = named_fault counts n (named_by row)

-- a thread could go on past the last row
abbrev pub last_fault : List Row → Option LoadFault
last_fault rows = unless (stops (row_at rows (length rows - 1))) fault.FallsOff

-- how many there are of each thing in an image
abbrev pub counts_in : Image → Counts
counts_in image = record {
  rows = length image.rows;
  threads = length image.threads;
  phasers = length image.phasers;
  barriers = length image.barriers;
}

-- the first fault, if there is one: no thread; then the phasers, the barriers, the threads and the
-- rows, each list in its order; and the last row at last
abbrev pub first_fault : Image → Option LoadFault
first_fault image =
    let rows = length image.rows in
    earliest (
    unless (nat_lt 0 (length image.threads)) fault.NoThread ∷
    earliest_in (listed_phaser_fault rows image.phasers) 0 image.phasers ∷
    earliest_in (barrier_fault rows) 0 image.barriers ∷
    earliest_in (thread_fault rows) 0 image.threads ∷
    earliest_in (row_fault (counts_in image)) 0 image.rows ∷
    last_fault image.rows ∷
    [])
