-- What `compare` reads and writes, for each result.
use Rattle.std.specs.Prelude.{◌≡◌, ◌⊎◌, ℕ, Bool, IsTrue, List, Option, None, Result, Ok, Err, codes}
use Rattle.std.specs.Io.KnownBytes.{Appends}
use Rattle.row_code.specs.declared.image.Image.{Image}
use Rattle.loader.specs.Fault.{first_fault}
use Rattle.trace_compare.specs.{declared.comparison.Verdict.Verdict, Compare.HasCompared, Compare.IsReadNoFurther}
use Rattle.trace_compare.specs.declared.comparison.Verdict.TheVariants as verdict
use Rattle.trace_text.specs.{Outcome.IsUntouched, RunText.GivesOnAndOn, Start.IsRefused}
use Rattle.workbench.specs.{declared.done.Done.Done, declared.fault.Fault.Fault, Fault.counted_line}
use Rattle.workbench.specs.declared.done.Done.TheVariants as done
use Rattle.workbench.specs.declared.fault.Fault.TheVariants as fault

-- the line of a verdict
abbrev pub verdict_line : Verdict → List ℕ
verdict_line verdict.Same = codes "same\n"
verdict_line (verdict.Differs line) = counted_line (codes "differs ") line
verdict_line (verdict.NotATrace line) = counted_line (codes "not a trace ") line

-- why there is no verdict: the program can be loaded, and the output failed, or the trace couldn't be read and nothing was written; or
-- there was no memory, or the program isn't loaded, and nothing was written
abbrev pub StopsComparing : Fault → Image → (trace_before trace_after : Option (List ℕ)) (trace_failed : Bool)
    (output_before output_after : Option (List ℕ)) (output_failed : Bool) → Type 0
StopsComparing fault.Write image trace_before trace_after trace_failed output_before output_after output_failed =
    (first_fault image ≡ None) × IsTrue output_failed
StopsComparing fault.Read image trace_before trace_after trace_failed output_before output_after output_failed =
    (first_fault image ≡ None) × (IsTrue trace_failed ⊎ GivesOnAndOn trace_before trace_after) × (output_after ≡ output_before)
StopsComparing fault.Memory image trace_before trace_after trace_failed output_before output_after output_failed = output_after ≡ output_before
StopsComparing (fault.Load f) image trace_before trace_after trace_failed output_before output_after output_failed =
    IsRefused f image × IsUntouched trace_before trace_after output_before output_after
StopsComparing f image trace_before trace_after trace_failed output_before output_after output_failed = ⊥

-- the trace was read up to the piece with the line that decides, and the line of the verdict was written; or why not
abbrev pub WritesVerdict : Image → Result Verdict Fault → (trace_before trace_after : Option (List ℕ)) (trace_failed : Bool)
    (output_before output_after : Option (List ℕ)) (output_failed : Bool) → Type 0
WritesVerdict image (Ok v) trace_before trace_after trace_failed output_before output_after output_failed =
    HasCompared image trace_before trace_after v × IsReadNoFurther trace_before trace_after v
    × Appends output_before output_after (verdict_line v)
WritesVerdict image (Err f) trace_before trace_after trace_failed output_before output_after output_failed =
    StopsComparing f image trace_before trace_after trace_failed output_before output_after output_failed

-- how a verdict is done
abbrev pub done_by : Verdict → Done
done_by verdict.Same = done.AsAsked
done_by (verdict.Differs line) = done.Unlike
done_by (verdict.NotATrace line) = done.Unlike
