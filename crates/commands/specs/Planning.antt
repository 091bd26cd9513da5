-- What `plan` writes for a program and a plan.
use Rattle.std.specs.Prelude.{◌≡◌, ℕ, Bool, List, [], length, map, unwrap_or, Option, None, Some, Ok, Err}
use Rattle.std.specs.{Io.KnownBytes.Appends, List.range_with_len}
use Rattle.assembler.specs.Symbols.{SymbolTable, name_of}
use Rattle.instruction_table.specs.declared.shape.OperandKind.TheVariants.{Thread}
use Rattle.loader.specs.{Fault.first_fault, Program.IsProgramOf, Program.Program as Loaded}
use Rattle.row_code.specs.declared.image.Image.{Image}
use Rattle.plans.specs.{Plan.words_in_plan, Tree.Plan, Tree.words_of_plan, Planned.AreRuns, Play.plays}
use Rattle.plans.specs.Progress.{Progress, begun}
use Rattle.schedule_reader.specs.{Schedule.choices_of, declared.run.Run.Run}
use Rattle.trace_text.specs.Start.{IsRefused}
use Rattle.workbench.specs.declared.{fault.Fault.Fault, program.Program.Program}
use Rattle.workbench.specs.declared.fault.Fault.TheVariants as fault
use Rattle.commands.specs.{Choices.schedule_line, Named.line_by, declared.unplanned.Unplanned.Unplanned}
use Rattle.commands.specs.declared.unplanned.Unplanned.TheVariants as why

-- the threads' names, in order of number; a thread without a name, as in an image, has an empty one, which no word of a plan
-- spells
abbrev pub thread_name : SymbolTable → ℕ → List ℕ
thread_name symbols thread = unwrap_or (name_of Thread thread symbols) []

abbrev pub thread_names : SymbolTable → ℕ → List (List ℕ)
thread_names symbols count = map (thread_name symbols) (range_with_len 0 count)

-- an image's program can be loaded, and its threads have these names
abbrev pub HasThreads : Image → SymbolTable → List (List ℕ) → Type 0
HasThreads image symbols names = (first_fault image ≡ None) × (names ≡ thread_names symbols (length image.threads))

-- how far the plan in a text comes, by so many choices at most, on a loaded program whose threads have these names
abbrev pub Plays : Loaded → (most : ℕ) → (names : List (List ℕ)) → (plan : List ℕ) → Progress → Type 0
Plays loaded most names plan progress =
    (steps : Plan) × ((words_in_plan names plan ≡ Ok (words_of_plan steps)) × (progress ≡ plays steps (begun loaded most)))

abbrev pub ComesOfPlan : Program → (most : ℕ) → (plan : List ℕ) → Progress → Type 0
ComesOfPlan program most plan progress =
    (loaded : Loaded) × ((names : List (List ℕ)) × (HasThreads program.image program.names names
    × IsProgramOf program.image loaded × Plays loaded most names plan progress))

-- what is written is the schedule of the choices that were made, as one line, and the result says whether the plan needed one
-- more
abbrev pub Writes : List ℕ → Bool → Progress → Type 0
Writes text stopped progress =
    (runs : List Run) × (AreRuns runs × (choices_of runs ≡ progress.choices) × (text ≡ schedule_line runs)
    × (stopped ≡ progress.stopped))

-- the same with the names of the threads
abbrev pub WritesNamed : List (List ℕ) → List ℕ → Bool → Progress → Type 0
WritesNamed names text stopped progress =
    (runs : List Run) × (AreRuns runs × (choices_of runs ≡ progress.choices) × (text ≡ line_by (Some names) runs)
    × (stopped ≡ progress.stopped))

-- why a program can't be loaded, by the fault that is reported
abbrev pub IsUnloadedFor : Fault → Image → Type 0
IsUnloadedFor (fault.Load f) image = IsRefused f image
IsUnloadedFor f image = ⊥

-- why there is no schedule: the program isn't loaded, or it is, and the plan has this fault
abbrev pub HasNoSchedule : Unplanned → Program → (plan : List ℕ) → Type 0
HasNoSchedule (why.Plan f) program plan =
    (names : List (List ℕ)) × (HasThreads program.image program.names names × (words_in_plan names plan ≡ Err f))
HasNoSchedule (why.Fault f) program plan = IsUnloadedFor f program.image

-- the schedule was written
abbrev pub HasPlanned : (stopped : Bool) → Program → (most : ℕ) → (plan : List ℕ) → (output_before output_after : Option (List ℕ)) → Type 0
HasPlanned stopped program most plan output_before output_after =
    (text : List ℕ) × ((progress : Progress) × (ComesOfPlan program most plan progress × Writes text stopped progress
    × Appends output_before output_after text))

-- it was written with the names of the threads
abbrev pub HasNamedPlanned : (stopped : Bool) → Program → (most : ℕ) → (plan : List ℕ) → (output_before output_after : Option (List ℕ)) → Type 0
HasNamedPlanned stopped program most plan output_before output_after =
    (names : List (List ℕ)) × ((text : List ℕ) × ((progress : Progress) × (HasThreads program.image program.names names
    × ComesOfPlan program most plan progress × WritesNamed names text stopped progress × Appends output_before output_after text)))
