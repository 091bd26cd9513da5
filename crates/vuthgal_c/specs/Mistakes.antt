-- Where a program, a plan or a schedule is refused.
use Rattle.std.specs.Prelude.{◌≡◌, ◌≢◌, ◌⊎◌, ◌+◌, ◌-◌, ◌==◌, ℕ, Bool, true, false, if◌then◌else◌, List, [], length, take, Some, None, Result, Ok, Err, IfErr, OnOk}
use Rattle.assembler.specs.{Meaning.StandsFor, Symbols.symbols_in}
use Rattle.commands.specs.{Pictures.program_of, Planning.HasThreads, Planning.IsUnloadedFor, Unplanned.unplanned_status}
use Rattle.commands.specs.declared.unplanned.Unplanned.{Unplanned}
use Rattle.commands.specs.declared.unplanned.Unplanned.TheVariants as why
use Rattle.plans.specs.{Plan.words_in_plan, declared.fault.PlanFault.PlanFault, declared.word.Word.Word}
use Rattle.schedule_reader.specs.{Schedule.finished_schedule, declared.fault.ScheduleFault.ScheduleFault}
use Rattle.schedule_reader.specs.declared.fault.ScheduleFault.TheVariants as schedule
use Rattle.workbench.specs.{ProgramFile.IsNoProgramFor, ProgramFile.IsNoTextFor, RunLine.program_part, RunLine.schedule_part}
use Rattle.workbench.specs.declared.{fault.Fault.Fault, program.Program.Program}
use Rattle.workbench.specs.declared.fault.Fault.TheVariants as fault
use Rattle.vuthgal_c.specs.{Beyond.IsProgramIn, Beyond.IsTooMuch, Beyond.SettlesUnplanned, declared.mistake.Kind.Kind}
use Rattle.vuthgal_c.specs.{Places.IsByteAt, Places.no_place, Places.word_place, declared.place.PlaceLook.PlaceLook}
use Rattle.vuthgal_c.specs.declared.mistake.Kind.TheVariants as kind

-- what is looked at, by its number
abbrev pub kind_of : ℕ → Kind
kind_of number =
    if number == 1 then kind.Plan else (if number == 2 then kind.Schedule else (if number == 3 then kind.Text else kind.Program))

-- the part of a file that is its program: all of it, or what is above a line `.run`
abbrev pub text_in : Kind → (file : List ℕ) → List ℕ
text_in kind.Program file = file
text_in kind.Plan file = program_of file
text_in kind.Schedule file = file
text_in kind.Text file = program_part file

-- whether that is never an image
abbrev pub is_text : Kind → Bool
is_text kind.Text = true
is_text _ = false

-- the program in a part of a file, or why there is none
abbrev pub IsProgramHere : (only_text : Bool) → (part : List ℕ) → Program → Type 0
IsProgramHere true part program = StandsFor part program.image × (symbols_in part ≡ Ok program.names)
IsProgramHere false part program = IsProgramIn part program

abbrev pub HasNone : (only_text : Bool) → Fault → (part : List ℕ) → Type 0
HasNone true f part = IsNoTextFor f part
HasNone false f part = IsNoProgramFor f part

abbrev pub IsProgramOf : Kind → (file : List ℕ) → Program → Type 0
IsProgramOf k file program = IsProgramHere (is_text k) (text_in k file) program

-- it is loaded, and its threads have these names
abbrev pub HasNames : Kind → (file : List ℕ) → (names : List (List ℕ)) → Type 0
HasNames k file names = (program : Program) × (IsProgramOf k file program × HasThreads program.image program.names names)

-- the place of the word of a text that makes its fault; another fault of a program has none
abbrev pub text_place : Fault → PlaceLook
text_place (fault.Asm f) = word_place f.fault.line f.at 0
text_place _ = no_place

-- that of a program that isn't loaded is in its text
abbrev pub IsPlacedLoad : Fault → PlaceLook → Type 0
IsPlacedLoad (fault.Load f) place = place.input ≡ 0
IsPlacedLoad _ place = place ≡ no_place

-- a file is refused, and where: it holds no program; or its program isn't loaded
abbrev pub LacksProgram : Kind → (file : List ℕ) → Unplanned → PlaceLook → Type 0
LacksProgram k file reason place =
    (f : Fault) × ((reason ≡ why.Fault f) × HasNone (is_text k) f (text_in k file) × (place ≡ text_place f))

abbrev pub IsNotLoaded : Kind → (file : List ℕ) → Unplanned → PlaceLook → Type 0
IsNotLoaded k file reason place =
    (f : Fault) × ((reason ≡ why.Fault f) × IsPlacedLoad f place
    × ((program : Program) × (IsProgramOf k file program × IsUnloadedFor f program.image)))

-- a plan has no fault, for threads of these names; or it has, in this line
abbrev pub IsRightPlan : (names : List (List ℕ)) → (plan : List ℕ) → Type 0
IsRightPlan names plan = (words : List Word) × (words_in_plan names plan ≡ Ok words)

abbrev pub IsWrongPlan : (names : List (List ℕ)) → (plan : List ℕ) → Unplanned → PlaceLook → Type 0
IsWrongPlan names plan reason place =
    (f : PlanFault) × ((reason ≡ why.Plan f) × (unplanned_status reason ≡ 3 → words_in_plan names plan ≡ Err f)
    × (place.line ≡ f.line) × (place.input ≡ 1))

-- the offset of a fault of a schedule
abbrev pub offset_of : ScheduleFault → ℕ
offset_of (schedule.Byte at) = at
offset_of (schedule.Number at) = at
offset_of (schedule.Repeat at) = at
offset_of schedule.Memory = 0

-- a schedule, which is the end of a file, has a fault, at this byte
abbrev pub IsWrongSchedule : (file schedule : List ℕ) → (input : ℕ) → Unplanned → PlaceLook → Type 0
IsWrongSchedule file schedule input reason place =
    (f : ScheduleFault) × ((reason ≡ why.Fault (fault.Schedule f))
    × (unplanned_status reason ≡ 3 → (finished_schedule schedule).fault ≡ Some f)
    × IsByteAt (take (length file - length schedule + offset_of f) file) input place)

-- nothing is wrong with what is looked at: a program alone, a plan, a schedule, or one behind the line `.run` of a text
abbrev pub IsRightInput : Kind → (names : List (List ℕ)) → (file input : List ℕ) → Type 0
IsRightInput kind.Program names file input = Unit {0}
IsRightInput kind.Plan names file input = IsRightPlan names input
IsRightInput kind.Schedule names file input = (finished_schedule input).fault ≡ None
IsRightInput kind.Text names file input = (finished_schedule (schedule_part file)).fault ≡ None

abbrev pub IsRight : Kind → (file input : List ℕ) → Type 0
IsRight k file input = (names : List (List ℕ)) × (HasNames k file names × IsRightInput k names file input)

-- it is refused, and where
abbrev pub IsWrongInput : Kind → (names : List (List ℕ)) → (file input : List ℕ) → Unplanned → PlaceLook → Type 0
IsWrongInput kind.Program names file input reason place = ⊥
IsWrongInput kind.Plan names file input reason place = IsWrongPlan names input reason place
IsWrongInput kind.Schedule names file input reason place = IsWrongSchedule input input 2 reason place
IsWrongInput kind.Text names file input reason place = IsWrongSchedule file (schedule_part file) 0 reason place

-- what is looked at is refused for a reason, and where: it has no program, or none that is loaded; or the rest is wrong
abbrev pub Refuses : Kind → (file input : List ℕ) → Unplanned → PlaceLook → Type 0
Refuses k file input reason place =
    LacksProgram k file reason place
    ⊎ (IsNotLoaded k file reason place
    ⊎ ((names : List (List ℕ)) × (HasNames k file names × IsWrongInput k names file input reason place)))

-- the place that is told with a status
abbrev pub IsPlaced : Kind → (file input : List ℕ) → (status : ℕ) → PlaceLook → Type 0
IsPlaced k file input status place =
    ((status ≡ 3) × ((reason : Unplanned) × Refuses k file input reason place)) ⊎ ((status ≢ 3) × (place ≡ no_place))

-- what is looked at is right; or it is refused, by the line of the reason; or it is too long, or out of memory
abbrev pub Mistakes : Kind → (file input : List ℕ) → (status : ℕ) (hint line : List ℕ) → Type 0
Mistakes k file input status hint line =
    (answer : Result (Unit {0}) Unplanned) × (OnOk answer (IsRight k file input)
    × IfErr answer (λ reason. unplanned_status reason ≡ 3 → (place : PlaceLook) × Refuses k file input reason place)
    × (IsTooMuch file input → answer ≡ Err (why.Fault fault.Read))
    × (status ≢ 3 → hint ≡ [])
    × SettlesUnplanned answer status false (Some []) (Some line))
