-- A thread, and what a turn does to it.
use Rattle.std.specs.Prelude.{ℕ, ℤ, pos, Bool, true, false, ◌+◌, ◌-◌, ◌==◌, if◌then◌else◌, List, [], ◌∷◌, ◌++◌, length, take, Option, Some, None, slice_get}
use Rattle.std.specs.List.{list_any}
use Rattle.instruction_table.specs.{declared.row.Row.Row, declared.register.Reg.Reg, LocalRows.Local, LocalRows.local_of}
use Rattle.instruction_table.specs.declared.register.Reg.TheVariants.{R0, R1, R7}
use Rattle.instruction_table.specs.Registers.{all_zero, value_in, with_value}
use Rattle.thread_state.specs.declared.{event.What.What, frame.Frame.Frame, status.Status.Status}
use Rattle.thread_state.specs.Frame.{is_routine}
use Rattle.thread_state.specs.declared.event.What.TheVariants as what
use Rattle.thread_state.specs.declared.frame.Frame.TheVariants as frame
use Rattle.thread_state.specs.declared.status.Status.TheVariants as status

-- a thread: the row that it is at, its eight registers, its stack from the bottom, its status, whether it is interrupted, and
-- the values that it put out
pub record ThreadState : Type 0 where
  pub pc : ℕ
  pub registers : List ℤ
  pub stack : List Frame
  pub status : Status
  pub interrupted : Bool
  pub output : List ℤ

-- a thread at its first row
abbrev pub new_thread : ℕ → ThreadState
new_thread first = record {
  pc = first;
  registers = all_zero;
  stack = [];
  status = status.Runs;
  interrupted = false;
  output = [];
}

-- the thread after its turn, and what the turn shows
pub record Turn : Type 0 where
  pub thread : ThreadState
  pub what : What

-- the thread takes no more steps
abbrev pub is_finished : Status → Bool
is_finished status.Runs = false
is_finished (status.Throws code) = false
is_finished (status.AwaitsPhase phase) = false
is_finished (status.AwaitsBarrier index) = false
is_finished status.Ended = true
is_finished (status.Died code) = true

-- it meets an exception at its row
abbrev pub turn_of_throw : ℤ → ThreadState → Turn
turn_of_throw code thread = record { thread = record thread { status = status.Throws code }; what = what.Throws code }

-- InterruptedException: its interrupted status is cleared
abbrev pub turn_of_interruption : ThreadState → Turn
turn_of_interruption thread = turn_of_throw (pos 3) (record thread { interrupted = false })

-- a number goes into a register, and the next row follows
abbrev pub turn_of_answer : Reg → ℤ → ThreadState → Turn
turn_of_answer into value thread = record {
  thread = record thread { registers = with_value thread.registers into value; pc = thread.pc + 1; status = status.Runs };
  what = what.Value value;
}

-- a row without a result is done, and the next row follows
abbrev pub turn_of_done : ThreadState → Turn
turn_of_done thread = record { thread = record thread { pc = thread.pc + 1 }; what = what.Done }

-- it waits at its row for the end of the phase of this number
abbrev pub turn_of_wait : ℤ → ThreadState → Turn
turn_of_wait phase thread = record { thread = record thread { status = status.AwaitsPhase phase }; what = what.Waits }

-- it waits at its row at a barrier; the index of its arrival
abbrev pub turn_of_barrier_wait : ℕ → ThreadState → Turn
turn_of_barrier_wait index thread =
    record { thread = record thread { status = status.AwaitsBarrier (pos index) }; what = what.Waits }

-- `halt`: the thread ends and stays at its row; inside a routine or an action it is exception 7
abbrev pub turn_of_halt : ThreadState → Turn
turn_of_halt thread =
    if list_any is_routine thread.stack then turn_of_throw (pos 7) thread
    else record { thread = record thread { status = status.Ended }; what = what.Ends }

-- what a row that uses only registers shows: the number that it put into a register, if it did
abbrev pub what_of_written : Option ℤ → What
what_of_written (Some value) = what.Value value
what_of_written None = what.Done

-- a row that uses only registers
abbrev pub turn_of_local : Row → ThreadState → Turn
turn_of_local row thread =
    let effect : Local = local_of row thread.registers thread.pc in
    record { thread = record thread { registers = effect.registers; pc = effect.pc }; what = what_of_written effect.written }

-- `out`: a register's value is put out, but 4096 values are all that a thread has room for
abbrev pub turn_of_out : Reg → ThreadState → Turn
turn_of_out from thread =
    let value = value_in thread.registers from in
    if length thread.output == 4096 then turn_of_throw (pos 8) thread
    else record { thread = record thread { output = thread.output ++ value ∷ []; pc = thread.pc + 1 }; what = what.Out value }

-- the stack has its 64 entries
abbrev pub is_full : ThreadState → Bool
is_full thread = length thread.stack == 64

-- the top entry of the stack
abbrev pub top_of : List Frame → Option Frame
top_of stack = slice_get stack (length stack - 1)

-- the thread with one more entry, at another row
abbrev pub with_entry : Frame → ℕ → ThreadState → ThreadState
with_entry entry row thread = record thread { stack = thread.stack ++ entry ∷ []; pc = row }

-- the thread without its top entry
abbrev pub popped : ThreadState → ThreadState
popped thread = record thread { stack = take (length thread.stack - 1) thread.stack }

-- `call`: `ret` will come back to the row after this one; if the stack is full, it is exception 6
abbrev pub turn_of_call : ℕ → ThreadState → Turn
turn_of_call target thread =
    if is_full thread then turn_of_throw (pos 6) thread
    else record { thread = with_entry (frame.Call (thread.pc + 1)) target thread; what = what.Done }

-- `try`: from here on exceptions are caught at the handler's row; on a full stack that is exception 6
abbrev pub turn_of_try : ℕ → ThreadState → Turn
turn_of_try handler thread =
    if is_full thread then turn_of_throw (pos 6) thread
    else record { thread = with_entry (frame.Handler handler) (thread.pc + 1) thread; what = what.Done }

-- `endtry`, by the top entry: a handler is popped, and anything else is exception 7
abbrev pub turn_of_endtry : Option Frame → ThreadState → Turn
turn_of_endtry (Some (frame.Handler row)) thread = turn_of_done (popped thread)
turn_of_endtry _ thread = turn_of_throw (pos 7) thread

-- `ret` from a call
abbrev pub turn_of_return : ℕ → ThreadState → Turn
turn_of_return row thread = record { thread = record (popped thread) { pc = row }; what = what.Done }

-- it enters the advance routine of a root: the phase goes into its first register, the root's parties into the second
abbrev pub turn_of_advance : ℕ → ℤ → ℕ → ℕ → ThreadState → Turn
turn_of_advance root phase parties first thread = record {
  thread = record (with_entry (frame.Advance root thread.registers thread.pc) first thread) {
    registers = with_value (with_value thread.registers R0 phase) R1 (pos parties);
  };
  what = what.Enters;
}

-- it enters a barrier's action, with its registers as they are
abbrev pub turn_of_action : ℕ → ℕ → ThreadState → Turn
turn_of_action barrier first thread =
    record { thread = with_entry (frame.Action barrier thread.registers thread.pc) first thread; what = what.Enters }

-- the thread is back at the row where its routine or action, the top entry, began, with the registers of that moment
abbrev pub left_routine : List ℤ → ℕ → ThreadState → ThreadState
left_routine registers row thread = record (popped thread) { registers = registers; pc = row }

-- what an exception does to a thread with this top entry: a call is popped, and the thread stays at its row; a handler catches
-- it, with the code in the last register; a routine or an action is popped; or the stack is empty
abbrev pub turn_of_popped : Option Frame → ℤ → ThreadState → Turn
turn_of_popped None code thread = record { thread = record thread { status = status.Died code }; what = what.Dies code }
turn_of_popped (Some (frame.Call row)) code thread = record { thread = popped thread; what = what.Unwinds }
turn_of_popped (Some (frame.Handler row)) code thread = record {
  thread = record (popped thread) { registers = with_value thread.registers R7 code; pc = row; status = status.Runs };
  what = what.Catches code;
}
turn_of_popped (Some (frame.Advance root registers row)) code thread =
    record { thread = left_routine registers row thread; what = what.Unwinds }
turn_of_popped (Some (frame.Action barrier registers row)) code thread =
    record { thread = left_routine registers row thread; what = what.Unwinds }

-- a turn of a thread that throws: its top entry is popped
abbrev pub turn_of_pop : ℤ → ThreadState → Turn
turn_of_pop code thread = turn_of_popped (top_of thread.stack) code thread

-- another thread, or it itself, interrupts it: no effect once it has ended or died
abbrev pub interrupted : ThreadState → ThreadState
interrupted thread = if is_finished thread.status then thread else record thread { interrupted = true }

-- `intrd`: the result is its interrupted status, 1 or 0, which is cleared
abbrev pub turn_of_intrd : Reg → ThreadState → Turn
turn_of_intrd into thread =
    turn_of_answer into (if thread.interrupted then pos 1 else pos 0) (record thread { interrupted = false })
