-- What some commands read and write, for each result: a command that first reads its input (`ComesOf`), a command that first
-- reads the program in its input (`ComesOfProgram`), and a command that plays a program under a schedule (`Plays`). The other
-- commands have files with their names. `before`, `after` and `failed` are about one port: the bytes that are left or written
-- before the call and after it, and whether it has failed by then.
use Rattle.std.specs.Prelude.{◌≡◌, ◌⊎◌, ℕ, Bool, false, IsTrue, List, Option, Some, Result, Ok, Err}
use Rattle.assembler.specs.Meaning.{StandsFor}
use Rattle.row_code.specs.declared.image.Image.{Image}
use Rattle.trace_text.specs.{declared.run.RunFault.RunFault, declared.run_end.RunEnd.RunEnd, Outcome.ComesTo, Outcome.Stops}
use Rattle.trace_text.specs.declared.run.RunFault.TheVariants as run_fault
use Rattle.workbench.specs.{declared.fault.Fault.Fault, Input.GivesAll, Input.GivesTooMuch}
use Rattle.workbench.specs.ProgramFile.{IsNoProgramFor, IsNoTextFor, IsProgramFile}
use Rattle.workbench.specs.RunLine.{program_part, schedule_part}
use Rattle.workbench.specs.declared.fault.Fault.TheVariants as fault

-- why an input's bytes aren't known: no memory for them, and it hasn't failed; or it failed, or has more than an input may have
abbrev pub IsUnreadFor : Fault → (before after : Option (List ℕ)) (failed : Bool) → Type 0
IsUnreadFor f before after failed =
    ((f ≡ fault.Memory) × (failed ≡ false)) ⊎ ((f ≡ fault.Read) × (IsTrue failed ⊎ GivesTooMuch before after))

-- there is no result, for a reason that is one of these
abbrev pub IsNone : {A : Type 0} → Result A Fault → (IsWhy : Fault → Type 0) → Type 0
IsNone (Ok x) IsWhy = ⊥
IsNone (Err f) IsWhy = IsWhy f

-- an input was read to its end, and this is the result for its bytes; or it couldn't be read, and nothing else was used
abbrev pub ComesOf : {A : Type 0} → (List ℕ → Result A Fault → Type 0) → (untouched : Type 0) → Result A Fault
    → (before after : Option (List ℕ)) (failed : Bool) → Type 0
ComesOf Comes Untouched answer before after failed =
    ((input : List ℕ) × (GivesAll before after input × Comes input answer))
    ⊎ (IsNone answer (λ f. IsUnreadFor f before after failed) × Untouched)

-- an input was read to its end, and this is the image of its program
abbrev pub HasProgram : Image → (before after : Option (List ℕ)) → Type 0
HasProgram image before after = (file : List ℕ) × (GivesAll before after file × IsProgramFile file image)

-- why there is no program: the input couldn't be read; or it was, and is none
abbrev pub HasNoProgram : Fault → (before after : Option (List ℕ)) (failed : Bool) → Type 0
HasNoProgram f before after failed =
    IsUnreadFor f before after failed ⊎ ((file : List ℕ) × (GivesAll before after file × IsNoProgramFor f file))

abbrev pub ReadsProgram : Result Image Fault → (before after : Option (List ℕ)) (failed : Bool) → Type 0
ReadsProgram (Ok image) before after failed = HasProgram image before after
ReadsProgram (Err f) before after failed = HasNoProgram f before after failed

-- this is the result for an input's program; or it has none, and nothing else was used
abbrev pub ComesOfProgram : {A : Type 0} → (Image → Result A Fault → Type 0) → (untouched : Type 0) → Result A Fault
    → (before after : Option (List ℕ)) (failed : Bool) → Type 0
ComesOfProgram Comes Untouched answer before after failed =
    ((image : Image) × (HasProgram image before after × Comes image answer))
    ⊎ (IsNone answer (λ f. HasNoProgram f before after failed) × Untouched)

-- a run's fault, in the words of the commands
abbrev pub fault_of_run : RunFault → Fault
fault_of_run (run_fault.Load f) = fault.Load f
fault_of_run (run_fault.Schedule f) = fault.Schedule f
fault_of_run run_fault.Memory = fault.Memory
fault_of_run run_fault.Read = fault.Read
fault_of_run run_fault.Write = fault.Write

-- an image's program was played under a schedule, and came to this
abbrev pub Plays : Image → Result RunEnd Fault → (schedule_before schedule_after : Option (List ℕ)) (schedule_failed : Bool)
    (output_before output_after : Option (List ℕ)) (output_failed : Bool) → Type 0
Plays image (Ok end) schedule_before schedule_after schedule_failed output_before output_after output_failed =
    ComesTo image (Ok end) schedule_before schedule_after schedule_failed output_before output_after output_failed
Plays image (Err f) schedule_before schedule_after schedule_failed output_before output_after output_failed =
    (why : RunFault) × ((f ≡ fault_of_run why)
    × Stops image why schedule_before schedule_after schedule_failed output_before output_after output_failed)

-- a text with both: the program, and after its line `.run` the schedule. These bytes never fail: only 1,000,000,000 of them
-- could lead to `Read`
abbrev pub PlaysText : List ℕ → Result RunEnd Fault → (output_before output_after : Option (List ℕ)) (output_failed : Bool) → Type 0
PlaysText text answer output_before output_after output_failed =
    ((image : Image) × ((rest : Option (List ℕ)) × (StandsFor (program_part text) image
    × Plays image answer (Some (schedule_part text)) rest false output_before output_after output_failed)))
    ⊎ (IsNone answer (λ f. IsNoTextFor f (program_part text)) × (output_after ≡ output_before))
