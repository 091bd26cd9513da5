-- What the calls promise whose commands are in `commands`: plans, drawings, and schedules of traces.
use Rattle.std.specs.Prelude.{◌≡◌, ◌≢◌, ◌⊎◌, ◌<◌, ◌==◌, ℕ, Bool, true, false, not, if◌then◌else◌, min, IsTrue, List, [], ◌++◌, length, Option, Some, None, Result, Ok, Err, IfOk, IfErr, OnOk, is_none, codes}
use Rattle.std.specs.{Fmt.decimal, Io.KnownBytes.Appends}
use Rattle.commands.specs.{Drawing.IsDrawingIn, Picture.HaveNoPicture, Pictures.HasWritten, Pictures.program_of}
use Rattle.commands.specs.{Planning.HasNamedPlanned, Planning.HasNoSchedule, Planning.HasPlanned, declared.seeds.Seeds.Seeds}
use Rattle.commands.specs.{Seeds.HaveNoReport, Seeds.HasReportedSeeds, declared.seeds.Unlike.Unlike, Choices.HasWrittenChoices}
use Rattle.commands.specs.{Unplanned.unplanned_line, Unplanned.unplanned_status, declared.unplanned.Unplanned.Unplanned}
use Rattle.commands.specs.declared.unplanned.Unplanned.TheVariants as why
use Rattle.workbench.specs.{declared.fault.Fault.Fault, declared.program.Program.Program, Done.as_asked, Fault.status_of}
use Rattle.workbench.specs.{Input.most_bytes, ProgramFile.IsNamedProgram, ProgramFile.IsNoProgramFor, declared.done.Done.Done}
use Rattle.workbench.specs.declared.fault.Fault.TheVariants as fault
use Rattle.workbench.specs.declared.fault.PictureKind.TheVariants as picture
use Rattle.trace_compare.specs.{Naming.Naming, Writing.HasWrittenPart}
use Rattle.trace_text.specs.RunText.{GivesOnAndOn}
use Rattle.workbench.specs.declared.done.Done.TheVariants as done
use Rattle.vuthgal_c.specs.Calls.{Settles}

-- whether a trace is one
abbrev pub done_by_trace : Bool → Done
done_by_trace true = done.AsAsked
done_by_trace false = done.Unlike

-- the schedule of a trace was written, and where it isn't a trace; or a part of it, if the trace is too long to be read
pub record WrittenChoices (answer : Result Bool Fault) (trace_before trace_after output_before output_after : Option (List ℕ)) : Type 0 where
  pub done : IfOk answer (λ is_trace. (naming : Naming) × ((is_trace ≡ is_none naming.no_line)
      × HasWrittenChoices naming trace_before trace_after output_before output_after))
  pub unchanged : answer ≡ Err fault.Memory → output_after ≡ output_before
  pub part : answer ≡ Err fault.Read → HasWrittenPart trace_before trace_after output_before output_after
  pub read : answer ≡ Err fault.Read → GivesOnAndOn trace_before trace_after
  pub fault : IfErr answer (λ f. (f ≡ fault.Memory) ⊎ (f ≡ fault.Read))

abbrev pub NamesChoices : (trace : List ℕ) (status : ℕ) (schedule line : List ℕ) → Type 0
NamesChoices trace status schedule line =
    (answer : Result Bool Fault) × ((left : Option (List ℕ))
    × (WrittenChoices answer (Some trace) left (Some []) (Some schedule) × Settles done_by_trace answer status line))

-- the program that a file holds
abbrev pub IsProgramIn : (file : List ℕ) → Program → Type 0
IsProgramIn file program = (program.bytes.now ≡ file) × IsNamedProgram file program.image program.names

-- why there is no program: an input has more bytes than one may have; or the file holds none
abbrev pub IsTooMuch : (a b : List ℕ) → Type 0
IsTooMuch a b = (most_bytes < length a) ⊎ (most_bytes < length b)

-- why a plan is refused on a program: the file holds none; or the program or the plan has this fault
abbrev pub IsUnplannedFor : Unplanned → (file steps : List ℕ) → Type 0
IsUnplannedFor reason file steps =
    ((f : Fault) × ((reason ≡ why.Fault f) × IsNoProgramFor f (program_of file)))
    ⊎ ((program : Program) × (IsProgramIn (program_of file) program × HasNoSchedule reason program steps))

-- the schedule of a plan was written, with the names of the threads or with their numbers
abbrev pub HasPlannedBy : (has_names stopped : Bool) → Program → (most : ℕ) → (plan : List ℕ) → (output_before output_after : Option (List ℕ)) → Type 0
HasPlannedBy true stopped program most plan output_before output_after = HasNamedPlanned stopped program most plan output_before output_after
HasPlannedBy false stopped program most plan output_before output_after = HasPlanned stopped program most plan output_before output_after

-- the schedule of a plan was written; or why not, and then nothing was, unless the output failed
pub record PlansSteps (file steps : List ℕ) (most : ℕ) (has_names : Bool) (answer : Result Bool Unplanned) (output_before output_after : Option (List ℕ))
    (output_failed : Bool) : Type 0 where
  pub done : IfOk answer (λ stopped. (program : Program) × (IsProgramIn (program_of file) program
      × HasPlannedBy has_names stopped program most steps output_before output_after))
  pub refused : IfErr answer (λ reason. unplanned_status reason ≡ 3 → IsUnplannedFor reason file steps)
  pub unwritten : IfErr answer (λ reason. reason ≢ why.Fault fault.Write → output_after ≡ output_before)
  pub read : answer ≡ Err (why.Fault fault.Read) → IsTooMuch file steps
  pub write : answer ≡ Err (why.Fault fault.Write) → IsTrue output_failed
  pub spawn : answer ≢ Err (why.Fault fault.Spawn)

-- where a plan was stopped
abbrev pub stopped_line : (most : ℕ) → List ℕ
stopped_line most = codes "stopped at " ++ (decimal most ++ codes " choices\n")

-- the status of a plan's result, and its line, which also says where the plan was stopped
abbrev pub SettlesPlan : (most : ℕ) → Result Bool Unplanned → (status : ℕ) (line_failed : Bool) (line_before line_after : Option (List ℕ)) → Type 0
SettlesPlan most (Ok false) status line_failed line_before line_after = (status ≡ 0) × (line_after ≡ line_before)
SettlesPlan most (Ok true) status line_failed line_before line_after =
    (status ≡ 1) × (IsTrue line_failed ⊎ Appends line_before line_after (stopped_line most))
SettlesPlan most (Err reason) status line_failed line_before line_after =
    (status ≡ unplanned_status reason) × (IsTrue line_failed ⊎ Appends line_before line_after (unplanned_line reason))

abbrev pub Plans : (file steps : List ℕ) (most : ℕ) (has_names : Bool) (status : ℕ) (schedule line : List ℕ) → Type 0
Plans file steps most has_names status schedule line =
    (answer : Result Bool Unplanned) × (PlansSteps file steps most has_names answer (Some []) (Some schedule) false
    × SettlesPlan most answer status false (Some []) (Some line)
    × (IsTooMuch file steps → answer ≡ Err (why.Fault fault.Read)))

-- the seeds that a caller asks for: at most 100,000, and a limit of choices, unless that is 0
abbrev pub limit_of : ℕ → Option ℕ
limit_of limit = if limit == 0 then None else Some (min limit 1000000)

abbrev pub AreAsked : (first count limit names : ℕ) → Seeds → Type 0
AreAsked first count limit names seeds =
    (seeds.first ≡ first) × (seeds.count ≡ min count 100000) × (seeds.limit ≡ limit_of limit) × (seeds.expected.now ≡ [])
    × (seeds.has_names ≡ not (names == 0))

-- why seeds are refused on a program: the file holds none; or the program, or the plan of one of them, has this fault
abbrev pub IsUnreportedFor : Unplanned → (file steps : List ℕ) → Seeds → Type 0
IsUnreportedFor reason file steps seeds =
    ((f : Fault) × ((reason ≡ why.Fault f) × IsNoProgramFor f (program_of file)))
    ⊎ ((program : Program) × (IsProgramIn (program_of file) program × HaveNoReport reason program steps seeds))

-- what the orders of seeds lead to was written; or why not, and then nothing was, unless the output failed
pub record ReportsSeeds (file steps : List ℕ) (seeds : Seeds) (answer : Result (Unit {0}) Unplanned) (output_before output_after : Option (List ℕ))
    (output_failed : Bool) : Type 0 where
  pub done : OnOk answer ((program : Program) × (IsProgramIn (program_of file) program
      × ((unlike : Option Unlike) × HasReportedSeeds program steps seeds unlike output_before output_after)))
  pub refused : IfErr answer (λ reason. unplanned_status reason ≡ 3 → IsUnreportedFor reason file steps seeds)
  pub unwritten : IfErr answer (λ reason. reason ≢ why.Fault fault.Write → output_after ≡ output_before)
  pub read : answer ≡ Err (why.Fault fault.Read) → IsTooMuch file steps
  pub write : answer ≡ Err (why.Fault fault.Write) → IsTrue output_failed
  pub spawn : answer ≢ Err (why.Fault fault.Spawn)

-- the status of an answer that can't be cut off, and its fault's line
abbrev pub SettlesUnplanned : Result (Unit {0}) Unplanned → (status : ℕ) (line_failed : Bool) (line_before line_after : Option (List ℕ)) → Type 0
SettlesUnplanned (Ok done) status line_failed line_before line_after = (status ≡ 0) × (line_after ≡ line_before)
SettlesUnplanned (Err reason) status line_failed line_before line_after =
    (status ≡ unplanned_status reason) × (IsTrue line_failed ⊎ Appends line_before line_after (unplanned_line reason))

abbrev pub Reports : (file steps : List ℕ) → (Seeds → Type 0) → (status : ℕ) (report line : List ℕ) → Type 0
Reports file steps AreThese status report line =
    (seeds : Seeds) × ((answer : Result (Unit {0}) Unplanned) × (AreThese seeds
    × ReportsSeeds file steps seeds answer (Some []) (Some report) false
    × SettlesUnplanned answer status false (Some []) (Some line)
    × (IsTooMuch file steps → answer ≡ Err (why.Fault fault.Read))))

-- why a program and a schedule have no drawing: the file holds no program; or they have none
abbrev pub IsUndrawnFor : Fault → (file schedule : List ℕ) → Type 0
IsUndrawnFor f file schedule =
    IsNoProgramFor f file ⊎ ((program : Program) × (IsProgramIn file program × HaveNoPicture picture.Drawing f program.image schedule))

-- the drawing of a program and a schedule was written; or why not, and then nothing was, unless the output failed
pub record DrawsRun (width : ℕ) (file schedule : List ℕ) (answer : Result (Unit {0}) Fault) (output_before output_after : Option (List ℕ))
    (output_failed : Bool) : Type 0 where
  pub done : OnOk answer ((program : Program) × (IsProgramIn file program
      × HasWritten (IsDrawingIn width program.image program.names schedule) output_before output_after))
  pub refused : IfErr answer (λ f. status_of f ≡ 3 → IsUndrawnFor f file schedule)
  pub unwritten : IfErr answer (λ f. f ≢ fault.Write → output_after ≡ output_before)
  pub read : answer ≡ Err fault.Read → IsTooMuch file schedule
  pub write : answer ≡ Err fault.Write → IsTrue output_failed
  pub spawn : answer ≢ Err fault.Spawn

abbrev pub Draws : (width : ℕ) (file schedule : List ℕ) → (status : ℕ) (drawing line : List ℕ) → Type 0
Draws width file schedule status drawing line =
    (answer : Result (Unit {0}) Fault) × (DrawsRun width file schedule answer (Some []) (Some drawing) false
    × Settles as_asked answer status line × (IsTooMuch file schedule → answer ≡ Err fault.Read))
