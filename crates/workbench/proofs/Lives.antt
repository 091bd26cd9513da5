-- What becomes of a run that was recorded.
use Rattle.std.proofs.Common.{◌≡◌, ◌∙◌, ℕ, All, IfOk, List, Ok, Result, Option, None, Some, inl, inr, subst, sym, arith}
use Rattle.std.proofs.lemmas.Result.{IfOk-at_ok}
use Rattle.row_code.specs.declared.image.Image.{Image}
use Rattle.loader.specs.{Fault.first_fault, Program.IsProgramOf, Program.Program}
use Rattle.assembler.proofs.ReadLines.{one_image}
use Rattle.schedule_reader.specs.{declared.run.Run.Run, Schedule.IsRun, Schedule.choices_of, Schedule.finished_schedule}
use Rattle.thread_machine.proofs.Firsts.{is_first}
use Rattle.thread_machine.specs.{declared.choice.Choice.Choice, World.first_world, World.world_of}
use Rattle.thread_runner.specs.{declared.fault.LiveFault.LiveFault, declared.runner.LiveRun.LiveRun, Endings.ending_of}
use Rattle.thread_runner.specs.Replay.{IsRecordOf, IsReplay}
use Rattle.trace_text.specs.{declared.run_end.RunEnd.RunEnd, RunText.AreTraced, Trace.AppendsPartOf, Trace.lines_of}
use Rattle.workbench.specs.{Live.IsLived, Live.IsLivedAtMost, Live.IsRecorded, ProgramFile.IsProgramFile}

ok_is : {A E : Type 0} (a b : A) → (◌≡◌ {A = Result A E} (Ok a) (Ok b)) → a ≡ b
ok_is a b is = cc

-- a file is one program
pub one_program : (file : List ℕ) (a b : Image) → IsProgramFile file a → IsProgramFile file b → a ≡ b
one_program file a b (inl (is, first, fits)) (inl (too, second, fit)) = ok_is a b (sym first ∙ second)
one_program file a b (inl (is, first, fits)) (inr (other, second)) = absurd (cc (is, other))
one_program file a b (inr (is, first)) (inl (other, second, fit)) = absurd (cc (is, other))
one_program file a b (inr (is, first)) (inr (too, second)) = one_image file a b first second

-- the choices of a live run's schedule are a record of it
pub recorded_by : (image : Image) (program : Program) (limit : ℕ) (ran : Result LiveRun LiveFault) (runs : List Run)
    → IfOk ran (λ run. IsRecordOf (first_world program limit) run.schedule.items (world_of run.machine))
    → IfOk ran (λ run. ending_of (world_of run.machine) ≡ Some run.ending)
    → (run : LiveRun) × ((ran ≡ Ok run) × (choices_of (finished_schedule run.schedule.items).runs ≡ choices_of runs))
    → first_fault image ≡ None → IsProgramOf image program → IsRecorded image limit (choices_of runs)
recorded_by image program limit ran runs recorded ends (run, (is, choices)) none loaded =
    let first = first_world program limit in
    let world = world_of run.machine in
    let replay = subst (λ (all : List Choice). IsReplay (record { first = first; choices = all }) world) choices (IfOk-at_ok _ is recorded).replay.replay in
    (first, (world, (run.ending, (none, is_first image program limit loaded, replay, IfOk-at_ok _ is ends))))

-- a run that was recorded had its trace written, of a copy of its program
pub lived : (limit : ℕ) (image : Image) (program again : Program) (runs given : List Run) (end : RunEnd) (old new : Option (List ℕ))
    → given ≡ runs → again ≡ program → first_fault image ≡ None → IsProgramOf image program → All IsRun runs
    → IsRecorded image limit (choices_of runs) → AreTraced (first_world again 1000000000) (choices_of given) end old new
    → IsLived limit image end old new
lived limit image program again runs given end old new same copied none loaded are recorded traced = grind (arith, is_first)

-- or a part of its lines
pub lived_in_part : (limit : ℕ) (image : Image) (program again : Program) (runs given : List Run) (old new : Option (List ℕ))
    → given ≡ runs → again ≡ program → first_fault image ≡ None → IsProgramOf image program
    → IsRecorded image limit (choices_of runs) → AppendsPartOf old new (lines_of (first_world again 1000000000) (choices_of given))
    → IsLivedAtMost limit image old new
lived_in_part limit image program again runs given old new same copied none loaded recorded part = grind (arith, is_first)
