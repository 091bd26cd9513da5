-- What is saved of a thread before a turn, and how this restores the thread.
use Rattle.std.specs.Prelude.{ℕ, ℤ, ◌-◌, Bool, List, ◌++◌, length, take, option_to_list, Option}
use Rattle.thread_state.specs.{declared.frame.Frame.Frame, declared.status.Status.Status, Thread.ThreadState, Thread.top_of}

-- all that a turn can overwrite; of the stack its length and its top entry, of the output its length
pub record Note : Type 0 where
  pub pc : ℕ
  pub registers : List ℤ
  pub status : Status
  pub interrupted : Bool
  pub depth : ℕ
  pub top : Option Frame
  pub outputs : ℕ

-- of this thread
abbrev pub note_of : ThreadState → Note
note_of thread = record {
  pc = thread.pc;
  registers = thread.registers;
  status = thread.status;
  interrupted = thread.interrupted;
  depth = length thread.stack;
  top = top_of thread.stack;
  outputs = length thread.output;
}

-- the thread before its turn; in the turn its stack lost or got at most one entry, and its output got at most one value
abbrev pub undone : Note → ThreadState → ThreadState
undone note thread = record {
  pc = note.pc;
  registers = note.registers;
  stack = take (note.depth - 1) thread.stack ++ option_to_list note.top;
  status = note.status;
  interrupted = note.interrupted;
  output = take note.outputs thread.output;
}
