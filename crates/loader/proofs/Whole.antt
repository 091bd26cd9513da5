-- Where an image has no fault, the program that it declares has what is true of each.
use Rattle.std.proofs.Common.{◌≡◌, ℕ, ◌+◌, ◌-◌, ◌<◌, ◌≤◌, ltb, Bool, true, false, List, length, get_or, map, All, Option, None, unwrap_or, refl, sym, ap, subst, ◌∙◌, arith, ltb-true}
use Rattle.std.proofs.lemmas.List.{length-map, Elements.All-map}
use Rattle.instruction_table.specs.declared.row.Row.{Row}
use Rattle.row_code.specs.declared.phasers.{DeclaredPolicy.DeclaredPolicy, DeclaredPhaser.DeclaredPhaser}
use Rattle.row_code.specs.declared.{barriers.DeclaredBarrier.DeclaredBarrier, threads.DeclaredThread.DeclaredThread}
use Rattle.row_code.specs.declared.image.Image.{Image}
use Rattle.loader.specs.{declared.counts.Counts.Counts, declared.load_fault.LoadFault.LoadFault, Named.stops}
use Rattle.loader.specs.Declarations.{row_in, routine_row, new_barrier, action_row, AreDeclared}
use Rattle.loader.specs.Program.{Program, AreNewBarriers, CanStart, IsCode, IsNamed, IsNewBarrier, IsProgram, program_of, row_at}
use Rattle.loader.specs.Fault.{unless, earliest_in, first_fault, routine_fault, listed_phaser_fault, action_fault, barrier_fault, thread_fault, row_fault, last_fault, counts_in}
use Rattle.loader.specs.declared.load_fault.LoadFault.TheVariants as fault
use Rattle.tier_tree.specs.Stored.{Stored}
use Rattle.loader.proofs.Search.{none_left, none_in}

-- a check that found no fault has passed its test
pub passed : (test : Bool) (f : LoadFault) → unless test f ≡ None → test ≡ true
passed true f e = refl
passed false f e = absurd (cc)

-- each row names what is there
pub rows_named : (counts : Counts) (rows : List Row) → earliest_in (row_fault counts) 0 rows ≡ None → All (IsNamed counts) rows
rows_named counts rows e = grind (arith, none_in)

-- each thread begins at a row
pub threads_begin : (rows : ℕ) (threads : List DeclaredThread) → earliest_in (thread_fault rows) 0 threads ≡ None
    → All (λ (thread : DeclaredThread). thread.first_row < rows) threads
threads_begin rows threads e = grind (arith, none_in)

-- so there is a row
pub some_row : (rows : ℕ) (threads : List DeclaredThread) → 0 < length threads
    → All (λ (thread : DeclaredThread). thread.first_row < rows) threads → 0 < rows
some_row rows threads some begin =
    let one = begin 0 (record { first_row = 0 }) some in
    omega arith

routine_there : (rows n : ℕ) (policy : DeclaredPolicy) → 0 < rows → routine_fault rows n policy ≡ None → row_in policy < rows
routine_there rows n policy some e = grind arith

-- each phaser has a row for its routine
pub routines_there : (rows : ℕ) (phasers : List DeclaredPhaser) → 0 < rows
    → earliest_in (listed_phaser_fault rows phasers) 0 phasers ≡ None → All (λ row. row < rows) (map routine_row phasers)
routines_there rows phasers some e =
    All-map (λ row. row < rows) routine_row phasers (λ i d lt.
    routine_there rows (0 + i) (get_or phasers i d).policy some
    (none_left (routine_fault rows (0 + i) (get_or phasers i d).policy) _ (none_in (listed_phaser_fault rows phasers) 0 phasers e i d lt)).0)

action_there : (rows n : ℕ) (action : Option ℕ) → 0 < rows → action_fault rows n action ≡ None → unwrap_or action 0 < rows
action_there rows n action some e = grind arith

-- each barrier has a row for its action
pub actions_there : (rows : ℕ) (barriers : List DeclaredBarrier) → 0 < rows
    → earliest_in (barrier_fault rows) 0 barriers ≡ None → All (λ row. row < rows) (map action_row barriers)
actions_there rows barriers some e =
    All-map (λ row. row < rows) action_row barriers (λ i d lt.
    action_there rows (0 + i) (get_or barriers i d).action some
    (none_left (unless _ (fault.BarrierParties (0 + i))) (action_fault rows (0 + i) (get_or barriers i d).action)
    (none_in (barrier_fault rows) 0 barriers e i d lt)).1)

-- each barrier is new
pub barriers_new : (barriers : List DeclaredBarrier) → All IsNewBarrier (map new_barrier barriers)
barriers_new barriers = All-map IsNewBarrier new_barrier barriers (λ i d lt. refl)

-- no thread goes on past the last row
pub last_stops : (rows : List Row) → last_fault rows ≡ None → stops (row_at rows (length rows - 1)) ≡ true
last_stops rows e = passed (stops (row_at rows (length rows - 1))) fault.FallsOff e

-- how many there are of each thing that a row of the image may name, if it has so many phasers
abbrev pub counts_with : Image → ℕ → Counts
counts_with image phasers = record {
  rows = length image.rows;
  threads = length image.threads;
  phasers = phasers;
  barriers = length (map new_barrier image.barriers);
}

-- what is true of the program of an image without a fault, whatever is said of its phasers
pub record HasParts (image : Image) : Type 0 where
  pub code : IsCode (program_of image) (counts_with image (length image.phasers))
  pub threads : CanStart (length image.rows) image.threads
  pub barriers : AreNewBarriers (map new_barrier image.barriers)

pub has_parts : (image : Image) → length image.rows ≤ 65535 → length image.threads ≤ 64
    → length image.barriers ≤ 64 → first_fault image ≡ None → HasParts image
has_parts image few few_threads few_barriers none =
    let test = ltb 0 (length image.threads) in
    let some_thread = none_left (unless test fault.NoThread) _ none in
    let some = ltb-true 0 (length image.threads) (passed test fault.NoThread some_thread.0) in
    let all_phasers = none_left (earliest_in (listed_phaser_fault (length image.rows) image.phasers) 0 image.phasers) _ some_thread.1 in
    let all_barriers = none_left (earliest_in (barrier_fault (length image.rows)) 0 image.barriers) _ all_phasers.1 in
    let threads = none_left (earliest_in (thread_fault (length image.rows)) 0 image.threads) _ all_barriers.1 in
    let rows = none_left (earliest_in (row_fault (counts_in image)) 0 image.rows) _ threads.1 in
    let last = none_left (last_fault image.rows) None rows.1 in
    let begin = threads_begin (length image.rows) image.threads threads.0 in
    let row = some_row (length image.rows) image.threads some begin in
    let same : counts_in image ≡ counts_with image (length image.phasers) =
    ap (λ n. record {
      rows = length image.rows;
      threads = length image.threads;
      phasers = length image.phasers;
      barriers = n;
    }) (sym (length-map image.barriers new_barrier)) in
    record {
      code = record {
        few = omega arith;
        named = subst (λ c. All (IsNamed c) image.rows) same (rows_named (counts_in image) image.rows rows.0);
        last = last_stops image.rows last.0;
        routines = routines_there (length image.rows) image.phasers row all_phasers.0;
        actions = actions_there (length image.rows) image.barriers row all_barriers.0;
        all_routines = length-map image.phasers routine_row;
        all_actions = length-map image.barriers action_row ∙ sym (length-map image.barriers new_barrier);
      };
      threads = record { some = some; few = few_threads; begin = begin };
      barriers = record {
        few = omega (arith, length-map image.barriers new_barrier);
        fresh = barriers_new image.barriers;
      };
    }

-- the program that an image declares, with its phasers in this forest
abbrev pub declared_by : Image → List Stored → Program
declared_by image forest = record (program_of image) { phasers = forest }

pub whole : (image : Image) (forest : List Stored) → length image.rows ≤ 65535 → length image.threads ≤ 64
    → length image.barriers ≤ 64 → first_fault image ≡ None → AreDeclared (length image.phasers) image.phasers forest
    → IsProgram (declared_by image forest)
whole image forest few few_threads few_barriers none declared = grind (arith, has_parts)
