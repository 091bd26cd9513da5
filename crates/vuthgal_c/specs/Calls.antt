-- What the calls promise whose commands are in `workbench`: the status, the output and the line of a fault are those of the
-- command for ports in memory.
use Rattle.std.specs.Prelude.{◌≡◌, ℕ, false, List, [], Option, Some, None, Result}
use Rattle.trace_compare.specs.declared.comparison.Verdict.{Verdict}
use Rattle.trace_text.specs.{declared.run_end.RunEnd.RunEnd, Outcome.IsUntouched}
use Rattle.workbench.specs.{declared.done.Done.Done, declared.fault.Fault.Fault, Asm.Assembles, Debug.Debugs, List.Lists}
use Rattle.workbench.specs.{Compare.WritesVerdict, Compare.done_by, Done.IsSettledBy, Done.as_asked}
use Rattle.workbench.specs.Outcome.{ComesOf, ComesOfProgram, Plays, PlaysText}

-- the status of what a command came to, and the line of its fault
abbrev pub Settles : {A : Type 0} → (done_by : A → Done) → Result A Fault → (status : ℕ) (line : List ℕ) → Type 0
Settles done_by answer status line = IsSettledBy done_by answer status false (Some []) (Some line)

-- a program was played under a schedule
abbrev pub Runs : (program schedule : List ℕ) (status : ℕ) (trace line : List ℕ) → Type 0
Runs program schedule status trace line =
    (answer : Result RunEnd Fault) × ((program_left : Option (List ℕ)) × ((schedule_left : Option (List ℕ))
    × (ComesOfProgram (λ image came. Plays image came (Some schedule) schedule_left false (Some []) (Some trace) false)
    (IsUntouched (Some schedule) schedule_left (Some []) (Some trace)) answer (Some program) program_left false
    × Settles as_asked answer status line)))

-- a text was played under the schedule after its line `.run`
abbrev pub RunsText : (text : List ℕ) (status : ℕ) (trace line : List ℕ) → Type 0
RunsText text status trace line =
    (answer : Result RunEnd Fault) × ((left : Option (List ℕ))
    × (ComesOf (λ input came. PlaysText input came (Some []) (Some trace) false) (Some trace ≡ Some []) answer (Some text) left false
    × Settles as_asked answer status line))

-- the image of a text was written
abbrev pub AssemblesText : (text : List ℕ) (status : ℕ) (image line : List ℕ) → Type 0
AssemblesText text status image line =
    (answer : Result (Unit {0}) Fault) × ((left : Option (List ℕ))
    × (ComesOf (λ input came. Assembles input came (Some []) (Some image) false) (Some image ≡ Some []) answer (Some text) left false
    × Settles as_asked answer status line))

-- the canonical text of a program was written
abbrev pub ListsProgram : (program : List ℕ) (status : ℕ) (text line : List ℕ) → Type 0
ListsProgram program status text line =
    (answer : Result (Unit {0}) Fault) × ((left : Option (List ℕ))
    × (ComesOfProgram (λ image came. Lists image came (Some []) (Some text) false) (Some text ≡ Some []) answer (Some program) left false
    × Settles as_asked answer status line))

-- a trace was compared with the run of a program
abbrev pub Compares : (program trace : List ℕ) (status : ℕ) (verdict line : List ℕ) → Type 0
Compares program trace status verdict line =
    (answer : Result Verdict Fault) × ((program_left : Option (List ℕ)) × ((trace_left : Option (List ℕ))
    × (ComesOfProgram (λ image came. WritesVerdict image came (Some trace) trace_left false (Some []) (Some verdict) false)
    (IsUntouched (Some trace) trace_left (Some []) (Some verdict)) answer (Some program) program_left false
    × Settles done_by answer status line)))

-- lines of commands were carried out on a program
abbrev pub DebugsProgram : (program commands : List ℕ) (status : ℕ) (replies line : List ℕ) → Type 0
DebugsProgram program commands status replies line =
    (answer : Result (Unit {0}) Fault) × ((program_left : Option (List ℕ)) × ((commands_left : Option (List ℕ))
    × (ComesOfProgram (λ image came. Debugs None image came (Some commands) commands_left false (Some []) (Some replies) false)
    (IsUntouched (Some commands) commands_left (Some []) (Some replies)) answer (Some program) program_left false
    × Settles as_asked answer status line)))
