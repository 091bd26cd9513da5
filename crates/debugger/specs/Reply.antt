-- What the debugger does and writes in reply to a command.
use Rattle.std.specs.Prelude.{◌≡◌, ◌⊎◌, ℕ, nat_lt, if◌then◌else◌, Bool, IsTrue, true, false, List, [], ◌∷◌, ◌++◌, length, slice_set, codes, Option, Some, None, Result, Ok, Err}
use Rattle.std.specs.{Fmt.decimal, Io.KnownBytes.Appends}
use Rattle.schedule_reader.specs.Schedule.{choices_of}
use Rattle.thread_machine.specs.declared.{choice.Choice.Choice, fault.StepFault.StepFault}
use Rattle.thread_machine.specs.{World.StoredWorld, World.world_of, Step.puts_out, Step.refusal_of}
use Rattle.thread_machine.specs.declared.fault.StepFault.TheVariants as step
use Rattle.debugger.specs.{declared.session.reply.CommandFault.CommandFault, declared.stop.Stop.Stop, Moves.IsSessionStep}
use Rattle.debugger.specs.{Session.Session, Session.went_back, Go.Stops}
use Rattle.debugger.specs.Command.{Order, Step, Go, Back, Break, Clear, Print, Quit, Unknown, has_list, line_order}
use Rattle.debugger.specs.declared.session.reply.CommandFault.TheVariants as fault
use Rattle.trace_text.specs.{State.state_text, Trace.lines_of}
use Rattle.debugger.specs.declared.stop.Stop.TheVariants as stop

-- a word, a number and the end of the line
abbrev pub number_line : List ℕ → ℕ → List ℕ
number_line word n = word ++ (decimal n ++ codes "\n")

-- `b`, by the past before it
abbrev pub back_text : List StoredWorld → List ℕ
back_text [] = codes "no history\n"
back_text (world ∷ past) = number_line (codes "back ") world.choices

-- `k` and `c`
abbrev pub row_text : List ℕ → ℕ → Session → List ℕ
row_text word row session = if nat_lt row (length session.breaks) then number_line word row else codes "?\n"

-- why `g` was refused a choice
abbrev pub fault_text : StepFault → List ℕ
fault_text step.NoSuchThread = codes " none\n"
fault_text step.StepLimit = codes " limit\n"
fault_text step.Memory = codes " memory\n"

-- `g`
abbrev pub stop_text : Stop → List ℕ
stop_text (stop.Break n) = number_line (codes "at ") n
stop_text (stop.End n) = number_line (codes "end ") n
stop_text (stop.Fault n why) = codes "fault " ++ (decimal n ++ fault_text why)

-- `s`: the session after a choice that may be refused
abbrev pub IsStepUnless : Option StepFault → Session → Choice → Session → Type 0
IsStepUnless (Some why) session choice after = after ≡ session
IsStepUnless None session choice after = IsSessionStep session choice after

-- the session after a command, and the text that was written
abbrev pub Replies : Session → Order → Session → List ℕ → Type 0
Replies session (Step choice) after text =
    IsStepUnless (refusal_of (world_of session.machine) choice) session choice after
    × (text ≡ lines_of (world_of session.machine) (choice ∷ []))
Replies session (Go runs) after text =
    (stop : Stop) × Stops session (choices_of runs) stop after × (text ≡ stop_text stop)
Replies session Back after text = (after ≡ went_back session) × (text ≡ back_text session.past)
Replies session (Break row) after text =
    (after ≡ record session { breaks = slice_set session.breaks row true }) × (text ≡ row_text (codes "break ") row session)
Replies session (Clear row) after text =
    (after ≡ record session { breaks = slice_set session.breaks row false }) × (text ≡ row_text (codes "clear ") row session)
Replies session Print after text = (after ≡ session) × (text ≡ state_text (world_of session.machine))
Replies session Quit after text = (after ≡ session) × (text ≡ [])
Replies session Unknown after text = (after ≡ session) × (text ≡ codes "?\n")

-- whether a command may be out of memory: a choice only where it puts out a value; the text of a state is made in memory
abbrev pub wants_memory : Session → Order → Bool
wants_memory session (Step choice) = puts_out (world_of session.machine) choice
wants_memory session Print = true
wants_memory session _ = false

-- what a line may be out of memory for: a list of runs, where `g` has two or more, or what it asks for wants some
abbrev pub NeedsMemory : Session → List ℕ → Type 0
NeedsMemory session line = (has_list (line_order line) ≡ true) ⊎ (wants_memory session (line_order line) ≡ true)

-- a command was carried out, and its reply was written; or it was carried out, and the output has failed; or it was not, since
-- it is out of memory, and nothing was written
abbrev pub IsCarriedOut : {A : Type 0} → (wants : Type 0) → Result A CommandFault → Session → Order → Session
    → (output_before output_after : Option (List ℕ)) (failed : Bool) → Type 0
IsCarriedOut wants (Ok answer) session order after output_before output_after failed =
    (text : List ℕ) × (Replies session order after text × Appends output_before output_after text)
IsCarriedOut wants (Err fault.Write) session order after output_before output_after failed =
    ((text : List ℕ) × Replies session order after text) × IsTrue failed
IsCarriedOut wants (Err fault.Memory) session order after output_before output_after failed =
    wants × (after ≡ session) × (output_after ≡ output_before)
