-- What the exit status says of a text with its schedule.
use Rattle.std.proofs.Common.{◌≡◌, ◌∙◌, ◌≤◌, ◌⊎◌, ℕ, Bool, true, false, List, [], ◌∷◌, ◌++◌, length, Some, None, inl, inr, refl, ap, sym, append-nil, arith, if◌then◌else◌, Option, Result, Ok, Err, IsTrue, length-append}
use Rattle.std.proofs.lemmas.List.Splits.{join_with_byte-slice_split}
use Rattle.std.specs.{Io.KnownBytes.Consumes, List.slice_split, List.join_with_byte}
use Rattle.line_reader.specs.{Words.is_line_end, FaultNumber.asm_number}
use Rattle.row_code.specs.{FaultNumber.image_number, declared.image.Image.Image}
use Rattle.assembler.specs.{Meaning.StandsFor}
use Rattle.assembler.proofs.ReadLines.{stands_for-assembled}
use Rattle.loader.specs.FaultNumber.{load_number}
use Rattle.schedule_reader.specs.{FaultNumber.schedule_number, declared.fault.ScheduleFault.ScheduleFault, declared.run.Run.Run}
use Rattle.schedule_reader.specs.Schedule.{Schedule, finished_schedule}
use Rattle.trace_text.specs.{declared.run.RunFault.RunFault, declared.run_end.RunEnd.RunEnd, Outcome.Stops, RunText.HasFault}
use Rattle.trace_text.specs.declared.run.RunFault.TheVariants as run_fault
use Rattle.workbench.specs.{declared.fault.Fault.Fault, Done.IsSettledBy, Done.as_asked, Fault.refusal_status, Fault.status_of}
use Rattle.workbench.specs.{Input.GivesAll, Input.GivesTooMuch, Input.most_bytes, ProgramFile.IsNoTextFor}
use Rattle.workbench.specs.Outcome.{ComesOf, PlaysText, fault_of_run}
use Rattle.workbench.specs.RunLine.{after_run, is_run_line, program_part, schedule_part}
use Rattle.workbench.specs.declared.fault.Fault.TheVariants as fault
use Rattle.headline.specs.EndToEnd.{HasShownText}
use Rattle.headline.proofs.Showing.{never-shown, text-shown}

-- the statuses of faults
refusal_high : (number : Option ℕ) → 3 ≤ refusal_status number
refusal_high (Some n) = omega arith
refusal_high None = omega arith

refusal_low : (number : Option ℕ) → refusal_status number ≤ 4
refusal_low (Some n) = omega arith
refusal_low None = omega arith

status_high : (f : Fault) → 3 ≤ status_of f
status_high (fault.Asm f) = refusal_high (asm_number f.fault.kind)
status_high (fault.Image f) = refusal_high (image_number f)
status_high (fault.Load f) = refusal_high (load_number f)
status_high (fault.Schedule f) = refusal_high (schedule_number f)
status_high _ = omega arith

status_low : (f : Fault) → status_of f ≤ 5
status_low (fault.Asm f) = omega (arith, refusal_low (asm_number f.fault.kind))
status_low (fault.Image f) = omega (arith, refusal_low (image_number f))
status_low (fault.Load f) = omega (arith, refusal_low (load_number f))
status_low (fault.Schedule f) = omega (arith, refusal_low (schedule_number f))
status_low _ = omega arith

-- a schedule with a fault isn't one without
faulty_whole : (schedule bytes : List ℕ) (rest : Option (List ℕ)) (runs all : List Run) (why : ScheduleFault)
    → Consumes (Some schedule) rest bytes → HasFault bytes rest runs why
    → finished_schedule schedule ≡ record { runs = all; fault = None } → ⊥
faulty_whole schedule bytes None runs all why consumed has whole = absurd consumed
faulty_whole schedule bytes (Some left) runs all why consumed (inl (end, is)) whole =
    let same : schedule ≡ bytes = consumed ∙ ap (λ more. bytes ++ more) end ∙ append-nil bytes in
    absurd (cc (ap (λ (s : Schedule). s.fault) (sym is ∙ ap finished_schedule (sym same) ∙ whole)))
faulty_whole schedule bytes (Some left) runs all why consumed (inr has) whole =
    absurd (cc (ap (λ (s : Schedule). s.fault) (sym (has left) ∙ ap finished_schedule (sym consumed) ∙ whole)))

-- a text that is refused isn't shown
no_text : (f : Fault) (text : List ℕ) (before after : Option (List ℕ)) → IsNoTextFor f (program_part text) → status_of f ≡ 3
    → HasShownText text before after → ⊥
no_text (fault.Asm f) text before after none is (image, (shown, ((stands, accepted), rows, appends))) =
    absurd (cc (none is, stands_for-assembled (program_part text) image stands))
no_text _ text before after none is shows = absurd none

no_run : (text : List ℕ) (image : Image) (why : RunFault) (rest output_before output_after : Option (List ℕ)) (failed : Bool)
    (before after : Option (List ℕ)) → StandsFor (program_part text) image
    → Stops image why (Some (schedule_part text)) rest false output_before output_after failed → status_of (fault_of_run why) ≡ 3
    → HasShownText text before after → ⊥
no_run text image (run_fault.Load f) rest a b failed before after stands (refused, other, untouched) is shows =
    never-shown text image f before after stands refused shows
no_run text image (run_fault.Schedule f) rest a b failed before after stands
    (world, (begins, (sound, (bytes, (runs, (other, consumed, early, has, lines)))))) is
    (own, (shown, (accepted, (all, (whole, traced)), appends))) =
    faulty_whole (schedule_part text) bytes rest runs all f consumed has whole
no_run text image _ rest a b failed before after stands stops is shows = absurd (omega (arith, is))

-- a schedule is no longer than its text
rest-shorter : (line : List ℕ) (lines : List (List ℕ)) → length (join_with_byte 10 lines) ≤ length (join_with_byte 10 (line ∷ lines))
rest-shorter line [] = omega arith
rest-shorter line (next ∷ lines) = omega (arith, length-append line (10 ∷ join_with_byte 10 (next ∷ lines)))

shorter_by : (is_run : Bool) (line : List ℕ) (lines : List (List ℕ))
    → length (join_with_byte 10 (after_run lines)) ≤ length (join_with_byte 10 lines)
    → length (join_with_byte 10 (if is_run then lines else after_run lines)) ≤ length (join_with_byte 10 (line ∷ lines))
shorter_by true line lines less = rest-shorter line lines
shorter_by false line lines less = omega (arith, less, rest-shorter line lines)

after_run-shorter : (lines : List (List ℕ)) → length (join_with_byte 10 (after_run lines)) ≤ length (join_with_byte 10 lines)
after_run-shorter [] = omega arith
after_run-shorter (line ∷ lines) = shorter_by (is_run_line line) line lines (after_run-shorter lines)

schedule-short : (text : List ℕ) → length (schedule_part text) ≤ length text
schedule-short text =
    omega (arith, after_run-shorter (slice_split is_line_end text), ap (λ (bytes : List ℕ). length bytes) (join_with_byte-slice_split 10 text))

-- so only the output can fail of the ports
unwritten : (text : List ℕ) (image : Image) (why : RunFault) (rest before after : Option (List ℕ)) (failed : Bool)
    → Stops image why (Some (schedule_part text)) rest false before after failed → length text ≤ most_bytes
    → status_of (fault_of_run why) ≡ 5 → IsTrue failed
unwritten text image (run_fault.Load f) rest before after failed stops few is = absurd (omega (arith, refusal_low (load_number f), is))
unwritten text image (run_fault.Schedule f) rest before after failed stops few is =
    absurd (omega (arith, refusal_low (schedule_number f), is))
unwritten text image run_fault.Memory rest before after failed stops few is = absurd (omega (arith, is))
unwritten text image run_fault.Read rest before after failed (world, (begins, (inl broken, more))) few is = absurd (cc broken)
unwritten text image run_fault.Read None before after failed (world, (begins, (inr (bytes, (consumed, many)), more))) few is = absurd consumed
unwritten text image run_fault.Read (Some left) before after failed (world, (begins, (inr (bytes, (consumed, many)), more))) few is =
    absurd (omega (arith, many, few, schedule-short text, ap (λ (b : List ℕ). length b) consumed, length-append bytes left))
unwritten text image run_fault.Write rest before after failed (world, (begins, has_failed)) few is = has_failed

no_port : (f : Fault) (text : List ℕ) → IsNoTextFor f text → status_of f ≡ 5 → ⊥
no_port (fault.Asm f) text none is = absurd (omega (arith, refusal_low (asm_number f.fault.kind), is))
no_port _ text none is = absurd none

-- an input's text was played and came to this, and the command to this status
abbrev pub Settles : (status : ℕ) (input_before input_after : Option (List ℕ)) (input_failed : Bool)
    (before after : Option (List ℕ)) (failed : Bool) (errors_failed : Bool) (errors_before errors_after : Option (List ℕ)) → Type 0
Settles status input_before input_after input_failed before after failed errors_failed errors_before errors_after =
    (answer : Result RunEnd Fault)
    × (ComesOf (λ text came. PlaysText text came before after failed) (after ≡ before) answer input_before input_after input_failed
    × IsSettledBy as_asked answer status errors_failed errors_before errors_after)

pub settles-statuses : (status : ℕ) (input_before input_after : Option (List ℕ)) (input_failed : Bool)
    (before after : Option (List ℕ)) (failed errors_failed : Bool) (errors_before errors_after : Option (List ℕ))
    → Settles status input_before input_after input_failed before after failed errors_failed errors_before errors_after
    → (status ≡ 0) ⊎ ((3 ≤ status) × (status ≤ 5))
settles-statuses status ib ia input_failed before after failed errors_failed eb ea (Ok end, (comes, (status_is, quiet))) = inl status_is
settles-statuses status ib ia input_failed before after failed errors_failed eb ea (Err f, (comes, (status_is, reported))) =
    inr (omega (arith, status_high f, status_is), omega (arith, status_low f, status_is))

pub settles-shown : (status : ℕ) (input_before input_after : Option (List ℕ)) (input_failed : Bool)
    (before after : Option (List ℕ)) (failed errors_failed : Bool) (errors_before errors_after : Option (List ℕ))
    → Settles status input_before input_after input_failed before after failed errors_failed errors_before errors_after
    → status ≡ 0 → (text : List ℕ) × (GivesAll input_before input_after text × HasShownText text before after)
settles-shown status ib ia input_failed before after failed errors_failed eb ea
    (Ok end, (inl (text, (gives, inl (image, (rest, (stands, comes))))), settled)) is =
    (text, (gives, text-shown (Ok end) image (Some (schedule_part text)) rest false before after failed comes text stands refl))
settles-shown status ib ia input_failed before after failed errors_failed eb ea
    (Ok end, (inl (text, (gives, inr (none, same))), settled)) is = absurd none
settles-shown status ib ia input_failed before after failed errors_failed eb ea (Ok end, (inr (none, same), settled)) is = absurd none
settles-shown status ib ia input_failed before after failed errors_failed eb ea (Err f, (comes, (status_is, reported))) is =
    absurd (omega (arith, status_high f, status_is, is))

pub settles-refused : (status : ℕ) (input_before input_after : Option (List ℕ)) (input_failed : Bool)
    (before after : Option (List ℕ)) (failed errors_failed : Bool) (errors_before errors_after : Option (List ℕ))
    → Settles status input_before input_after input_failed before after failed errors_failed errors_before errors_after
    → status ≡ 3 → (text : List ℕ) × (GivesAll input_before input_after text
    × ((old new : Option (List ℕ)) → HasShownText text old new → ⊥))
settles-refused status ib ia input_failed before after failed errors_failed eb ea (Ok end, (comes, (status_is, quiet))) is =
    absurd (omega (arith, status_is, is))
settles-refused status ib ia input_failed before after failed errors_failed eb ea
    (Err f, (inl (text, (gives, inl (image, (rest, (stands, (why, (told, stops))))))), (status_is, reported))) is = (
      text,
      (
        gives,
        λ old new shows. no_run text image why rest before after failed old new stands stops
            (sym (ap status_of told) ∙ sym status_is ∙ is) shows,
      ),
    )
settles-refused status ib ia input_failed before after failed errors_failed eb ea
    (Err f, (inl (text, (gives, inr (none, same))), (status_is, reported))) is =
    (text, (gives, λ old new shows. no_text f text old new none (sym status_is ∙ is) shows))
settles-refused status ib ia input_failed before after failed errors_failed eb ea
    (Err f, (inr (inl (memory, sound), same), (status_is, reported))) is = absurd (omega (arith, ap status_of memory, status_is, is))
settles-refused status ib ia input_failed before after failed errors_failed eb ea
    (Err f, (inr (inr (read, why), same), (status_is, reported))) is = absurd (omega (arith, ap status_of read, status_is, is))

pub settles-ports : (status : ℕ) (input_before input_after : Option (List ℕ)) (input_failed : Bool)
    (before after : Option (List ℕ)) (failed errors_failed : Bool) (errors_before errors_after : Option (List ℕ))
    → Settles status input_before input_after input_failed before after failed errors_failed errors_before errors_after
    → status ≡ 5 → IsTrue input_failed ⊎ (GivesTooMuch input_before input_after ⊎ IsTrue failed)
settles-ports status ib ia input_failed before after failed errors_failed eb ea (Ok end, (comes, (status_is, quiet))) is =
    absurd (omega (arith, status_is, is))
settles-ports status ib ia input_failed before after failed errors_failed eb ea
    (Err f, (inl (text, ((consumed, end, few), inl (image, (rest, (stands, (why, (told, stops))))))), (status_is, reported))) is =
    inr (inr (unwritten text image why rest before after failed stops few (sym (ap status_of told) ∙ sym status_is ∙ is)))
settles-ports status ib ia input_failed before after failed errors_failed eb ea
    (Err f, (inl (text, (gives, inr (none, same))), (status_is, reported))) is =
    absurd (no_port f (program_part text) none (sym status_is ∙ is))
settles-ports status ib ia input_failed before after failed errors_failed eb ea
    (Err f, (inr (inl (memory, sound), same), (status_is, reported))) is = absurd (omega (arith, ap status_of memory, status_is, is))
settles-ports status ib ia input_failed before after failed errors_failed eb ea
    (Err f, (inr (inr (read, inl gone), same), (status_is, reported))) is = inl gone
settles-ports status ib ia input_failed before after failed errors_failed eb ea
    (Err f, (inr (inr (read, inr much), same), (status_is, reported))) is = inr (inl much)
