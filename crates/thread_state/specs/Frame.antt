-- The entries of a thread's stack.
use Rattle.std.specs.Prelude.{ℕ, ◌==◌, Bool, true, false}
use Rattle.thread_state.specs.declared.frame.{Frame.Frame, Entry.Entry}
use Rattle.thread_state.specs.declared.frame.Frame.TheVariants as frame
use Rattle.thread_state.specs.declared.frame.Entry.TheVariants as entry

-- what the machine shows of an entry: all but what it saved
abbrev pub entry_of : Frame → Entry
entry_of (frame.Call row) = entry.Call row
entry_of (frame.Handler row) = entry.Handler row
entry_of (frame.Advance root registers row) = entry.Advance root
entry_of (frame.Action barrier registers row) = entry.Action barrier

-- the entry of an advance routine or of a barrier's action
abbrev pub is_routine : Frame → Bool
is_routine (frame.Call row) = false
is_routine (frame.Handler row) = false
is_routine (frame.Advance root registers row) = true
is_routine (frame.Action barrier registers row) = true

-- the entry of this root's advance routine
abbrev pub is_advance : ℕ → Frame → Bool
is_advance wanted (frame.Call row) = false
is_advance wanted (frame.Handler row) = false
is_advance wanted (frame.Advance root registers row) = root == wanted
is_advance wanted (frame.Action barrier registers row) = false

-- the entry of this barrier's action
abbrev pub is_action : ℕ → Frame → Bool
is_action wanted (frame.Call row) = false
is_action wanted (frame.Handler row) = false
is_action wanted (frame.Advance root registers row) = false
is_action wanted (frame.Action barrier registers row) = barrier == wanted
