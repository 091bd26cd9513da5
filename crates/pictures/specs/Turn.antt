-- How a choice is shown: in the column of its thread, and after the columns.
use Rattle.std.specs.Prelude.{ℕ, ℤ, pos, negsuc, Bool, true, false, if◌then◌else◌, List, [], ◌++◌, codes, decimal}
use Rattle.assembler.specs.Symbols.{SymbolTable}
use Rattle.instruction_table.specs.declared.shape.OperandKind.TheVariants as kind
use Rattle.thread_state.specs.declared.{event.Mark.Mark, event.What.What, status.Status.Status}
use Rattle.thread_state.specs.declared.event.Mark.TheVariants as mark
use Rattle.thread_state.specs.declared.event.What.TheVariants as what
use Rattle.thread_state.specs.declared.status.Status.TheVariants as status
use Rattle.trace_text.specs.Lines.{what_text}
use Rattle.pictures.specs.{Caption.called, Sheet.kept_behind, Sheet.shortened}

-- a row is shown if it was done, threw an exception, or began to wait or to run a routine; its result follows. Everything else
-- that a choice can do isn't done by the row.
abbrev pub shows_row : What → Bool
shows_row what.Done = true
shows_row (what.Value value) = true
shows_row what.Waits = true
shows_row (what.Throws code) = true
shows_row what.Enters = true
shows_row _ = false

-- the result, as in a trace, or nothing if the row has none
abbrev pub answer_text : What → List ℕ
answer_text what.Done = []
answer_text w = codes " " ++ what_text w

-- what stands in the column of the thread that had the turn, or whose timed wait expired
abbrev pub turn_text : ℕ → List ℕ → Bool → What → List ℕ
turn_text room row expiry w =
    if expiry then kept_behind room (codes "expiry") (answer_text w)
    else (if shows_row w then kept_behind room row (answer_text w) else shortened room (what_text w))

-- the sign of a thread that didn't have the turn: `#` if it waits, `:` if its wait can end, `|` if it runs, `!` if it throws;
-- nothing if it has ended or died
abbrev pub standing : Bool → Status → List ℕ
standing ready status.Runs = codes "|"
standing ready (status.Throws code) = codes "!"
standing ready (status.AwaitsPhase phase) = if ready then codes ":" else codes "#"
standing ready (status.AwaitsBarrier index) = if ready then codes ":" else codes "#"
standing ready status.Ended = []
standing ready (status.Died code) = []

-- what a choice changed besides its own thread: the phaser or barrier, and what happened to it. A phase below 0 means that the
-- phaser is terminated.
abbrev pub marked : SymbolTable → Mark → List ℕ
marked symbols mark.Nothing = []
marked symbols (mark.Phase root view) = called symbols kind.Phaser root
marked symbols (mark.Tripped barrier) = called symbols kind.Barrier barrier
marked symbols (mark.Broke barrier) = called symbols kind.Barrier barrier

abbrev pub view_words : ℤ → List ℕ
view_words (pos phase) = codes ": phase " ++ decimal phase
view_words (negsuc n) = codes ": terminated"

abbrev pub mark_words : Mark → List ℕ
mark_words mark.Nothing = []
mark_words (mark.Phase root view) = view_words view
mark_words (mark.Tripped barrier) = codes " trips"
mark_words (mark.Broke barrier) = codes " breaks"
