-- What a caller sees of a session's state and of a choice, as numbers. include/vuthgal.h names the numbers.
use Rattle.std.specs.Prelude.{◌≡◌, ℕ, ℤ, pos, ◌<◌, ◌≤◌, Bool, true, false, List, length, Some, slice_get, slice_index_or}
use Rattle.std.specs.Option.{unwrap_or}
use Rattle.cyclic_barrier.specs.Barrier.{BarrierState, number_waiting}
use Rattle.instruction_table.specs.{Registers.value_in, declared.row.Row.Row}
use Rattle.instruction_table.specs.declared.register.Reg.TheVariants.{R0, R1, R2, R3, R4, R5, R6, R7}
use Rattle.loader.specs.{Named.named_by, Program.Program, Program.row_at, declared.named.Named.Named}
use Rattle.loader.specs.declared.named.Named.TheVariants as named
use Rattle.machine_scene.specs.Scene.{thread_at, barrier_at, cell_at}
use Rattle.packed_phaser.specs.Flat.{view_of, unarrived_of}
use Rattle.thread_machine.specs.{Standing.standing_of, World.World, declared.standing.Standing.Standing}
use Rattle.thread_machine.specs.declared.standing.Standing.TheVariants as standing
use Rattle.thread_state.specs.{Thread.ThreadState, declared.event.Event.Event, declared.event.Mark.Mark, Frame.entry_of}
use Rattle.thread_state.specs.declared.{event.What.What, frame.Entry.Entry, status.Status.Status}
use Rattle.thread_state.specs.declared.event.Mark.TheVariants as mark
use Rattle.thread_state.specs.declared.event.What.TheVariants as what
use Rattle.thread_state.specs.declared.frame.Entry.TheVariants as entry
use Rattle.thread_state.specs.declared.frame.Frame.TheVariants as frame
use Rattle.thread_state.specs.declared.status.Status.TheVariants as status
use Rattle.tier_tree.specs.Forest.{PhaserState, phaser_at}
use Rattle.vuthgal_c.specs.declared.look.{BarrierLook.BarrierLook, EntryLook.EntryLook, EventLook.EventLook}
use Rattle.vuthgal_c.specs.declared.look.{PhaserLook.PhaserLook, StateLook.StateLook, ThreadLook.ThreadLook}

-- no phaser or barrier has this number
abbrev pub nothing : ℕ
nothing = 65535

-- the phaser or the barrier that a row names
abbrev pub object_of : Named → ℕ
object_of (named.Phaser phaser) = phaser
object_of (named.Barrier barrier) = barrier
object_of _ = nothing

abbrev pub status_number : Status → ℕ
status_number status.Runs = 0
status_number (status.Throws code) = 1
status_number (status.AwaitsPhase phase) = 2
status_number (status.AwaitsBarrier index) = 3
status_number status.Ended = 4
status_number (status.Died code) = 5

-- the exception that is thrown, or has ended the thread; the phase that is awaited; or the index of an arrival at a barrier
abbrev pub status_value : Status → ℤ
status_value status.Runs = pos 0
status_value (status.Throws code) = code
status_value (status.AwaitsPhase phase) = phase
status_value (status.AwaitsBarrier index) = index
status_value status.Ended = pos 0
status_value (status.Died code) = code

-- where a thread waits: the phaser or barrier that its row names
abbrev pub place_of : Status → Row → ℕ
place_of (status.AwaitsPhase phase) row = object_of (named_by row)
place_of (status.AwaitsBarrier index) row = object_of (named_by row)
place_of _ row = nothing

abbrev pub flag : Bool → ℕ
flag true = 1
flag false = 0

abbrev pub thread_look : Program → ThreadState → ThreadLook
thread_look program thread = record {
  r0 = value_in thread.registers R0;
  r1 = value_in thread.registers R1;
  r2 = value_in thread.registers R2;
  r3 = value_in thread.registers R3;
  r4 = value_in thread.registers R4;
  r5 = value_in thread.registers R5;
  r6 = value_in thread.registers R6;
  r7 = value_in thread.registers R7;
  value = status_value thread.status;
  row = thread.pc;
  object = place_of thread.status (row_at program.rows thread.pc);
  outputs = length thread.output;
  entries = length thread.stack;
  status = status_number thread.status;
  interrupted = flag thread.interrupted;
}

abbrev pub phaser_look : PhaserState → PhaserLook
phaser_look phaser = record {
  phase = view_of phaser.flat;
  parties = phaser.flat.parties;
  arrived = phaser.flat.arrived;
  unarrived = unarrived_of phaser.flat;
  parent = unwrap_or (slice_get phaser.line 1) nothing;
}

abbrev pub barrier_look : BarrierState → BarrierLook
barrier_look barrier = record {
  parties = barrier.parties;
  waiting = number_waiting barrier;
  runner = unwrap_or barrier.runner nothing;
  broken = flag barrier.broken;
}

abbrev pub standing_number : Standing → ℕ
standing_number standing.Live = 0
standing_number standing.Stuck = 1
standing_number standing.All = 2

abbrev pub state_look : World → StateLook
state_look world = record {
  choices = world.choices;
  steps = world.steps;
  threads = length world.scene.threads;
  phasers = length world.scene.phasers;
  barriers = length world.scene.barriers;
  standing = standing_number (standing_of world);
}

abbrev pub entry_look : Entry → EntryLook
entry_look (entry.Call row) = record { number = row; kind = 0 }
entry_look (entry.Handler row) = record { number = row; kind = 1 }
entry_look (entry.Advance root) = record { number = root; kind = 2 }
entry_look (entry.Action barrier) = record { number = barrier; kind = 3 }

-- what became of the thread, and the number that belongs to it
abbrev pub what_number : What → ℕ
what_number what.Idle = 0
what_number what.Done = 1
what_number (what.Value value) = 2
what_number (what.Out value) = 3
what_number what.Waits = 4
what_number (what.Throws code) = 5
what_number what.Enters = 6
what_number what.Unwinds = 7
what_number (what.Catches code) = 8
what_number (what.Dies code) = 9
what_number what.Ends = 10

abbrev pub what_value : What → ℤ
what_value (what.Value value) = value
what_value (what.Out value) = value
what_value (what.Throws code) = code
what_value (what.Catches code) = code
what_value (what.Dies code) = code
what_value _ = pos 0

-- what else the choice did: it ended the phase of a root, or terminated its tree; tripped a barrier; or broke one
abbrev pub mark_number : Mark → ℕ
mark_number mark.Nothing = 0
mark_number (mark.Phase root view) = 1
mark_number (mark.Tripped barrier) = 2
mark_number (mark.Broke barrier) = 3

abbrev pub mark_object : Mark → ℕ
mark_object mark.Nothing = nothing
mark_object (mark.Phase root view) = root
mark_object (mark.Tripped barrier) = barrier
mark_object (mark.Broke barrier) = barrier

abbrev pub mark_view : Mark → ℤ
mark_view (mark.Phase root view) = view
mark_view _ = pos 0

-- the choice of this number, by a thread at this row
abbrev pub event_look : (number row : ℕ) → Event → EventLook
event_look number row event = record {
  number = number;
  value = what_value event.what;
  view = mark_view event.mark;
  row = row;
  object = mark_object event.mark;
  what = what_number event.what;
  mark = mark_number event.mark;
}

-- a caller's room got the looks at the first things of a kind, as many as fit; after them it is as before
pub record IsFilled {Look : Type 0} (look : ℕ → Look) (count : ℕ) (before after : List Look) : Type 0 where
  pub size : length after ≡ length before
  pub looks : (n : ℕ) → n < count → n < length before → slice_get after n ≡ Some (look n)
  pub rest : (n : ℕ) → count ≤ n → slice_get after n ≡ slice_get before n

abbrev pub ThreadsAreSeen : World → (before after : List ThreadLook) → Type 0
ThreadsAreSeen world = IsFilled (λ t. thread_look world.program (thread_at world.scene t)) (length world.scene.threads)

abbrev pub PhasersAreSeen : World → (before after : List PhaserLook) → Type 0
PhasersAreSeen world = IsFilled (λ p. phaser_look (phaser_at world.scene.phasers p)) (length world.scene.phasers)

abbrev pub BarriersAreSeen : World → (before after : List BarrierLook) → Type 0
BarriersAreSeen world = IsFilled (λ b. barrier_look (barrier_at world.scene b)) (length world.scene.barriers)

abbrev pub CellsAreSeen : World → (before after : List ℤ) → Type 0
CellsAreSeen world = IsFilled (λ cell. cell_at world.scene cell) 32

-- the entries of a stack, from the bottom
abbrev pub StackIsSeen : ThreadState → (before after : List EntryLook) → Type 0
StackIsSeen thread =
    IsFilled (λ n. entry_look (entry_of (slice_index_or thread.stack n (frame.Call 0)))) (length thread.stack)

abbrev pub stack_count : ThreadState → ℕ
stack_count thread = length thread.stack

-- the values that a thread put out
abbrev pub OutputsAreSeen : ThreadState → (before after : List ℤ) → Type 0
OutputsAreSeen thread = IsFilled (λ n. slice_index_or thread.output n (pos 0)) (length thread.output)

abbrev pub output_count : ThreadState → ℕ
output_count thread = length thread.output
