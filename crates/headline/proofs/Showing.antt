-- What the commands have written, in the words of their promise.
use Rattle.std.proofs.Common.{◌≡◌, ℕ, Bool, List, [], None, Some, ◌∙◌, refl, ap, sym, subst, append-nil, inl, inr, arith, Option, Result, Ok, Err, OnOk}
use Rattle.std.specs.Io.KnownBytes.{Appends, Consumes, IsAtEnd}
use Rattle.row_code.specs.{declared.image.Image.Image, Image.IsImage}
use Rattle.line_reader.specs.Words.{lines_of}
use Rattle.assembler.specs.Meaning.{StandsFor}
use Rattle.assembler.proofs.{ImageRanges.said_image, ReadLines.one_image}
use Rattle.loader.specs.{Fault.first_fault, declared.load_fault.LoadFault.LoadFault}
use Rattle.schedule_reader.specs.{declared.run.Run.Run, Schedule.finished_schedule, Schedule.choices_of}
use Rattle.thread_machine.specs.{declared.choice.Choice.Choice, World.World}
use Rattle.trace_text.specs.{declared.run.RunFault.RunFault, declared.run_end.RunEnd.RunEnd, Start.Begins, Trace.trace_of}
use Rattle.trace_text.specs.Outcome.{ComesOfChoices, ComesTo}
use Rattle.trace_compare.proofs.{OneTrace.trace-first, SameTrace.same-trace}
use Rattle.trace_compare.specs.Compare.{HasVerdict, choices_of_trace, verdict_of}
use Rattle.trace_compare.specs.declared.comparison.Verdict.{Verdict}
use Rattle.trace_compare.specs.declared.comparison.Verdict.TheVariants as verdict
use Rattle.workbench.specs.{Compare.WritesVerdict, declared.fault.Fault.Fault, declared.done.Done.Done, Live.Lives}
use Rattle.workbench.specs.{Debug.Debugs, Debug.DebugsAt, Debug.IsBegun, ProgramFile.IsProgramFile}
use Rattle.workbench.specs.RunLine.{program_part, schedule_part}
use Rattle.workbench.specs.declared.done.Done.TheVariants as done
use Rattle.headline.specs.Headline.{start}
use Rattle.headline.specs.EndToEnd.{HasDebuggedFile, HasDebuggedFileAt, HasFoundTheSame, HasShownChoices, HasShownFile, HasShownLive, HasShownText, ShowsTheRows}

-- what a text stands for is within the limits of an image
pub text_image : (text : List ℕ) (image : Image) → StandsFor text image → IsImage image
text_image text image (lines, said, follows, known, is) = subst IsImage (sym is) (said_image 1 (lines_of text) lines said follows)

-- so is what a file holds
pub file_image : (file : List ℕ) (image : Image) → IsProgramFile file image → IsImage image
file_image file image (inl (is, read, fits)) = fits
file_image file image (inr (is, stands)) = text_image file image stands

-- what a known schedule's bytes are that were all read
whole : (schedule bytes : List ℕ) (before rest : Option (List ℕ)) → before ≡ Some schedule → Consumes before rest bytes → IsAtEnd rest
    → bytes ≡ schedule
whole schedule bytes before rest known consumed end = grind (arith, append-nil)

-- the trace of the choices that a schedule makes is that from the image's first world on
rows : (image : Image) (world : World) (schedule : List ℕ) (runs : List Run) → Begins image world
    → finished_schedule schedule ≡ record { runs = runs; fault = None }
    → ShowsTheRows image schedule (trace_of (start image) (choices_of runs))
rows image world schedule runs begins is = (runs, (is, refl))

first_trace : (image : Image) (world : World) (choices : List Choice) (before after : Option (List ℕ)) → Begins image world
    → Appends before after (trace_of world choices) → Appends before after (trace_of (start image) choices)
first_trace image world choices before after given appends = grind (arith, trace-first)

pub text-shown : (result : Result RunEnd RunFault) (image : Image) (schedule_before schedule_after : Option (List ℕ)) (schedule_failed : Bool)
    (before after : Option (List ℕ)) (failed : Bool)
    → ComesTo image result schedule_before schedule_after schedule_failed before after failed
    → OnOk result ((text : List ℕ) → StandsFor (program_part text) image → schedule_before ≡ Some (schedule_part text)
    → HasShownText text before after)
text-shown (Ok end) image schedule_before schedule_after schedule_failed before after failed
    (world, ((loads, first), sound, (bytes, (runs, (consumed, at_end, is, (ends, appends)))))) = λ text stands known.
    let all = whole (schedule_part text) bytes schedule_before schedule_after known consumed at_end in (
      image,
      (
        trace_of (start image) (choices_of runs),
        (
          (stands, (text_image (program_part text) image stands, loads)),
          subst (λ schedule. ShowsTheRows image schedule (trace_of (start image) (choices_of runs))) all
              (rows image world bytes runs (loads, first) is),
          first_trace image world (choices_of runs) before after (loads, first) appends,
        ),
      ),
    )
text-shown (Err f) image schedule_before schedule_after schedule_failed before after failed comes = tt

pub file-shown : (result : Result RunEnd RunFault) (image : Image) (schedule_before schedule_after : Option (List ℕ)) (schedule_failed : Bool)
    (before after : Option (List ℕ)) (failed : Bool)
    → ComesTo image result schedule_before schedule_after schedule_failed before after failed
    → OnOk result ((file : List ℕ) → IsProgramFile file image → HasShownFile file schedule_before schedule_after before after)
file-shown (Ok end) image schedule_before schedule_after schedule_failed before after failed
    (world, ((loads, first), sound, (bytes, (runs, (consumed, at_end, is, (ends, appends)))))) = λ file is_file. (
      image,
      (
        bytes,
        (
          trace_of (start image) (choices_of runs),
          (
            (is_file, (file_image file image is_file, loads)),
            consumed,
            at_end,
            rows image world bytes runs (loads, first) is,
            first_trace image world (choices_of runs) before after (loads, first) appends,
          ),
        ),
      ),
    )
file-shown (Err f) image schedule_before schedule_after schedule_failed before after failed comes = tt

pub file_debugged : (result : Result (Unit {0}) Fault) (runs : Option (List Run)) (image : Image)
    (commands_before commands_after : Option (List ℕ)) (commands_failed : Bool) (before after : Option (List ℕ)) (failed : Bool)
    → Debugs runs image result commands_before commands_after commands_failed before after failed
    → OnOk result ((file : List ℕ) → IsProgramFile file image → HasDebuggedFile runs file commands_before commands_after before after)
file_debugged (Ok done) runs image commands_before commands_after commands_failed before after failed
    (session, (now, (output_then, ((world, ((loads, first), same)), begun, held)))) = λ file is. (
      image,
      (
        world,
        (
          now,
          (
            output_then,
            (
              (is, (file_image file image is, loads)),
              first,
              subst (λ s. IsBegun runs s now before output_then) same begun,
              held,
            ),
          ),
        ),
      ),
    )
file_debugged (Err f) runs image commands_before commands_after commands_failed before after failed debugs = tt

pub file_debugged_at : (result : Result Done Fault) (image : Image) (trace_before trace_after : Option (List ℕ)) (trace_failed : Bool)
    (commands_before commands_after : Option (List ℕ)) (commands_failed : Bool) (before after : Option (List ℕ)) (failed : Bool)
    → DebugsAt image result trace_before trace_after trace_failed commands_before commands_after commands_failed before after failed
    → result ≡ Ok done.AsAsked → (file : List ℕ) → IsProgramFile file image
    → HasDebuggedFileAt file trace_before trace_after commands_before commands_after before after
file_debugged_at result image trace_before trace_after trace_failed commands_before commands_after commands_failed before after failed debugs is =
    let (runs, (named, held)) = subst
    (λ r. DebugsAt image r trace_before trace_after trace_failed commands_before commands_after commands_failed before after failed)
    is debugs in
    λ file is_file.
    (runs, (named, file_debugged (Ok tt) (Some runs) image commands_before commands_after commands_failed before after failed held file is_file))

pub choices_shown : (result : Result RunEnd RunFault) (image : Image) (choices : List Choice) (before after : Option (List ℕ)) (failed : Bool)
    → ComesOfChoices image choices result before after failed
    → OnOk result ((file : List ℕ) → IsProgramFile file image → HasShownChoices file choices before after)
choices_shown (Ok end) image choices before after failed (world, (begins, (ends, appends))) = λ file is.
    (image, ((is, (file_image file image is, begins.0)), first_trace image world choices before after begins appends))
choices_shown (Err f) image choices before after failed came = tt

pub live_shown : (result : Result RunEnd Fault) (limit : ℕ) (image : Image) (before after : Option (List ℕ)) (failed : Bool)
    → Lives limit image result before after failed
    → OnOk result ((file : List ℕ) → IsProgramFile file image → HasShownLive limit file before after)
live_shown (Ok end) limit image before after failed
    (runs, (world, (are, (first, (last, (ending, (loads, begun, replay, over)))), begins, (ends, appends)))) = λ file is. (
      image,
      (
        choices_of runs,
        (
          (is, (file_image file image is, loads)),
          (first, (last, (ending, (loads, begun, replay, over)))),
          first_trace image world (choices_of runs) before after begins appends,
        ),
      ),
    )
live_shown (Err f) limit image before after failed lives = tt

-- a text whose program has a fault isn't shown
pub never-shown : (text : List ℕ) (image : Image) (why : LoadFault) (before after : Option (List ℕ))
    → StandsFor (program_part text) image → first_fault image ≡ Some why → HasShownText text before after → ⊥
never-shown text image why before after stands fault (other, (shown, ((spells, (within, loads)), traced, appends))) =
    let same : other ≡ image = one_image (program_part text) other image spells stands in
    absurd (cc (fault, loads, ap first_fault same))

-- the verdict on a trace of which all was read
all-verdict : (world : World) (bytes : List ℕ) (left : Option (List ℕ)) (v : Verdict) → HasVerdict world bytes left v
    → verdict_of world bytes ≡ v
all-verdict world bytes left v (inl (end, is)) = is
all-verdict world bytes left v (inr has) = ap (verdict_of world) (sym (append-nil bytes)) ∙ has []

-- a trace that is found the same
pub same_found : (result : Result Verdict Fault) (image : Image) (trace_before trace_after : Option (List ℕ)) (trace_failed : Bool)
    (before after : Option (List ℕ)) (failed : Bool)
    → WritesVerdict image result trace_before trace_after trace_failed before after failed
    → result ≡ Ok verdict.Same → (file : List ℕ) → IsProgramFile file image → HasFoundTheSame file trace_before trace_after
same_found result image trace_before trace_after trace_failed before after failed writes is =
    let ((world, (bytes, ((loads, first), consumed, has))), end, told) =
    subst (λ r. WritesVerdict image r trace_before trace_after trace_failed before after failed) is writes in
    λ file is_file. (
      image,
      (
        bytes,
        (
          (is_file, (file_image file image is_file, loads)),
          consumed,
          end,
          same-trace world bytes (all-verdict world bytes trace_after verdict.Same has)
              ∙ trace-first image 1000000000 world (choices_of_trace bytes) first,
        ),
      ),
    )
