-- What `plan` says of a program, of the file that holds it.
use Rattle.std.proofs.Common.{◌≡◌, inr, ℕ, Bool, List, Result, Ok, Err, IfOk, IfErr, OnOk}
use Rattle.commands.specs.{Pictures.program_of, Planning.HasNoSchedule, Seeds.HaveNoReport, declared.seeds.Seeds.Seeds}
use Rattle.commands.specs.{Unplanned.unplanned_status, declared.unplanned.Unplanned.Unplanned}
use Rattle.workbench.specs.declared.program.Program.{Program}
use Rattle.vuthgal_c.specs.Beyond.{IsProgramIn, IsUnplannedFor, IsUnreportedFor}

pub planned_in_file : (Planned : Bool → Program → Type 0) (answer : Result Bool Unplanned) (file : List ℕ) (program : Program)
    → IsProgramIn (program_of file) program → IfOk answer (λ stopped. Planned stopped program)
    → IfOk answer (λ stopped. (p : Program) × (IsProgramIn (program_of file) p × Planned stopped p))
planned_in_file Planned (Ok stopped) file program is planned = (program, (is, planned))
planned_in_file Planned (Err reason) file program is planned = tt

pub refused_in_file : (answer : Result Bool Unplanned) (file steps : List ℕ) (program : Program)
    → IsProgramIn (program_of file) program → IfErr answer (λ reason. unplanned_status reason ≡ 3 → HasNoSchedule reason program steps)
    → IfErr answer (λ reason. unplanned_status reason ≡ 3 → IsUnplannedFor reason file steps)
refused_in_file (Ok stopped) file steps program is none = tt
refused_in_file (Err reason) file steps program is none = λ e. inr (program, (is, none e))

pub reported_in_file : (Reported : Program → Type 0) (answer : Result (Unit {0}) Unplanned) (file : List ℕ) (program : Program)
    → IsProgramIn (program_of file) program → OnOk answer (Reported program)
    → OnOk answer ((p : Program) × (IsProgramIn (program_of file) p × Reported p))
reported_in_file Reported (Ok done) file program is reported = (program, (is, reported))
reported_in_file Reported (Err reason) file program is reported = tt

pub unreported_in_file : (answer : Result (Unit {0}) Unplanned) (file steps : List ℕ) (seeds : Seeds) (program : Program)
    → IsProgramIn (program_of file) program → IfErr answer (λ reason. unplanned_status reason ≡ 3 → HaveNoReport reason program steps seeds)
    → IfErr answer (λ reason. unplanned_status reason ≡ 3 → IsUnreportedFor reason file steps seeds)
unreported_in_file (Ok done) file steps seeds program is none = tt
unreported_in_file (Err reason) file steps seeds program is none = λ e. inr (program, (is, none e))
