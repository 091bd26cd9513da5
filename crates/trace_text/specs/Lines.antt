-- The line of a choice: what the choice did, or why it was refused.
use Rattle.std.specs.Prelude.{ℕ, if◌then◌else◌, List, [], ◌++◌, codes, decimal, Option, Some, None}
use Rattle.std.specs.Fmt.{signed_decimal}
use Rattle.thread_machine.specs.declared.choice.Choice.{Choice}
use Rattle.thread_state.specs.declared.event.{Event.Event, What.What, Mark.Mark}
use Rattle.thread_state.specs.declared.event.What.TheVariants as what
use Rattle.thread_state.specs.declared.event.Mark.TheVariants as mark

-- what became of the thread
abbrev pub what_text : What → List ℕ
what_text what.Idle = codes "idle"
what_text what.Done = codes "ok"
what_text (what.Value value) = codes "= " ++ signed_decimal value
what_text (what.Out value) = codes "out " ++ signed_decimal value
what_text what.Waits = codes "wait"
what_text (what.Throws code) = codes "throw " ++ signed_decimal code
what_text what.Enters = codes "enter"
what_text what.Unwinds = codes "unwind"
what_text (what.Catches code) = codes "catch " ++ signed_decimal code
what_text (what.Dies code) = codes "die " ++ signed_decimal code
what_text what.Ends = codes "end"

-- the mark after it, with its space
abbrev pub mark_text : Mark → List ℕ
mark_text mark.Nothing = []
mark_text (mark.Phase root view) = codes " +p" ++ (decimal root ++ (codes " " ++ signed_decimal view))
mark_text (mark.Tripped barrier) = codes " +b" ++ decimal barrier
mark_text (mark.Broke barrier) = codes " -b" ++ decimal barrier

-- the number of the choice, and its thread, or the thread whose wait expires
abbrev pub choice_text : ℕ → Choice → List ℕ
choice_text step choice =
    decimal step ++ ((if choice.expiry then codes " x" else codes " t") ++ (decimal choice.thread ++ codes " "))

-- the line of a choice that was played by a thread at this row
abbrev pub event_text : ℕ → Choice → ℕ → Event → List ℕ
event_text step choice pc event =
    choice_text step choice ++ (decimal pc ++ (codes " " ++ (what_text event.what ++ (mark_text event.mark ++ codes "\n"))))

-- the line of a choice that was refused, by the row of its thread if there is one
abbrev pub refusal_text : ℕ → Choice → Option ℕ → List ℕ
refusal_text step choice (Some pc) = choice_text step choice ++ (decimal pc ++ codes " limit\n")
refusal_text step choice None = choice_text step choice ++ codes "- none\n"
