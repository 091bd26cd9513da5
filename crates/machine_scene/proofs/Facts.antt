-- What a sound scene tells of one thread: where it stands, what its top entry names, and at which barrier it waits.
use Rattle.std.proofs.Common.{◌≡◌, ◌≢◌, ℕ, ℤ, ◌+◌, ◌<◌, ◌≤◌, Bool, true, false, List, length, ap, refl, arith, is_some, Some, None, All}
use Rattle.std.proofs.lemmas.Option.{slice_get_cases}
use Rattle.instruction_table.specs.declared.row.Row.{Row, TheVariants.Halt, TheVariants.Cawait}
use Rattle.instruction_table.specs.declared.register.Reg.{Reg}
use Rattle.tier_tree.specs.{Forest.flat_at, Trees.is_pending}
use Rattle.tier_tree.proofs.Stands.{same-is}
use Rattle.cyclic_barrier.specs.Waits.{wait_at}
use Rattle.loader.specs.{declared.counts.Counts.Counts, Named.stops}
use Rattle.loader.specs.Program.{Program, IsCode, IsNamed, row_at}
use Rattle.thread_state.specs.{declared.frame.Frame.Frame, declared.status.Status.Status, Thread.top_of}
use Rattle.thread_state.specs.declared.frame.Frame.TheVariants as frame
use Rattle.thread_state.specs.declared.status.Status.TheVariants as status
use Rattle.machine_scene.specs.Scene.{Scene, counts_of, no_thread, thread_at, barrier_at, routine_at, action_at}
use Rattle.machine_scene.specs.Sound.{IsFrame, IsPlaced, IsSound, entries, bit, awaits}
use Rattle.machine_scene.proofs.Entries.{entries-at, entries-pop}

-- a row that doesn't stop has a row after it
pub next_within : (program : Program) (counts : Counts) (pc : ℕ) → IsCode program counts → pc < length program.rows
    → stops (row_at program.rows pc) ≡ false → pc + 1 < length program.rows
next_within program counts pc code within goes = grind arith

-- what the row names is there
pub named_at : (program : Program) (counts : Counts) (pc : ℕ) → IsCode program counts → pc < length program.rows
    → IsNamed counts (row_at program.rows pc)
named_at program counts pc code within = code.named pc Halt within

-- the row of each phaser's routine is there, and that of each barrier's action
pub routine_within : (program : Program) (scene : Scene) (root : ℕ) → IsCode program (counts_of program scene) → root < length scene.phasers
    → routine_at program root < length program.rows
routine_within program scene root code there = grind arith

pub action_within : (program : Program) (scene : Scene) (b : ℕ) → IsCode program (counts_of program scene) → b < length scene.barriers
    → action_at program b < length program.rows
action_within program scene b code there = grind arith

-- a thread stands at a row, and so do its entries
pub placed_at : (program : Program) (steps : ℕ) (scene : Scene) (t : ℕ) → IsSound program steps scene → t < length scene.threads
    → IsPlaced program scene (thread_at scene t)
placed_at program steps scene t sound there = sound.placed t no_thread there

-- the top entry is one of the stack's
pub top_is : (program : Program) (scene : Scene) (stack : List Frame) (f : Frame) → All (IsFrame program scene) stack
    → top_of stack ≡ Some f → IsFrame program scene f
top_is program scene stack f all is = grind (arith, slice_get_cases)

-- the same, of the stack of thread t
pub top_named : (program : Program) (steps : ℕ) (scene : Scene) (t : ℕ) (f : Frame) → IsSound program steps scene → t < length scene.threads
    → top_of (thread_at scene t).stack ≡ Some f → IsFrame program scene f
top_named program steps scene t f sound there is = grind (arith, top_is, placed_at)

-- one entry at the top is among those of all threads
counted_on_top : (test : Frame → Bool) (scene : Scene) (t : ℕ) (f : Frame) → t < length scene.threads → top_of (thread_at scene t).stack ≡ Some f
    → test f ≡ true → 1 ≤ entries test scene.threads
counted_on_top test scene t f there is passes =
    let one : bit (test f) ≡ 1 = ap bit passes in
    let popped = entries-pop test (thread_at scene t).stack f is in
    grind (arith, entries-at)

-- the top entry is that of an advance routine: its root is there and pending, and a row comes after the arrival's
pub advance_pending : (program : Program) (steps : ℕ) (scene : Scene) (t root row : ℕ) (registers : List ℤ) → IsSound program steps scene
    → t < length scene.threads → top_of (thread_at scene t).stack ≡ Some (frame.Advance root registers row)
    → is_pending (flat_at scene.phasers root) ≡ true
advance_pending program steps scene t root row registers sound there is =
    let named = top_named program steps scene t (frame.Advance root registers row) sound there is in
    grind (arith, counted_on_top, same-is)

-- the top entry is that of an action: a thread runs it
pub action_runs : (program : Program) (steps : ℕ) (scene : Scene) (t b row : ℕ) (registers : List ℤ) → IsSound program steps scene
    → t < length scene.threads → top_of (thread_at scene t).stack ≡ Some (frame.Action b registers row)
    → is_some (barrier_at scene b).runner ≡ true
action_runs program steps scene t b row registers sound there is = grind (arith, counted_on_top, same-is)

-- a thread with such a status waits at no barrier
pub data IsFree : Status → Type 0 where
  RunsOn : IsFree status.Runs
  ThrowsOn : (code : ℤ) → IsFree (status.Throws code)
  AwaitsOn : (phase : ℤ) → IsFree (status.AwaitsPhase phase)
  EndsOn : IsFree status.Ended
  DiesOn : (code : ℤ) → IsFree (status.Died code)

pub free_awaits : (b : ℕ) (s : Status) (row : Row) → IsFree s → awaits b s row ≡ false
free_awaits b _ row RunsOn = refl
free_awaits b _ row _ = refl

-- a thread that awaits no barrier has no wait at any
pub no_wait : (program : Program) (steps : ℕ) (scene : Scene) (t b : ℕ) → IsSound program steps scene
    → ((index : ℤ) → (thread_at scene t).status ≢ status.AwaitsBarrier index)
    → wait_at (barrier_at scene b).waits t ≡ None
no_wait program steps scene t b sound free = grind arith

-- a thread that awaits a barrier at this row has a wait there
pub awaited : (program : Program) (steps : ℕ) (scene : Scene) (t b : ℕ) (index : ℤ) (into : Reg) → IsSound program steps scene
    → (thread_at scene t).status ≡ status.AwaitsBarrier index → row_at program.rows (thread_at scene t).pc ≡ Cawait into b
    → is_some (wait_at (barrier_at scene b).waits t) ≡ true
awaited program steps scene t b index into sound waits row = grind arith
