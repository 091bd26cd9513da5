-- What `show_comparison` writes, for each result.
use Rattle.std.specs.Prelude.{◌≡◌, ℕ, Bool, List, [], ◌++◌, Option, Some, None, Result, Ok, Err, codes}
use Rattle.std.specs.Io.KnownBytes.{Appends}
use Rattle.row_code.specs.declared.image.Image.{Image}
use Rattle.trace_compare.specs.Compare.{HasShown, IsReadNoFurther, Judgement}
use Rattle.trace_compare.specs.declared.comparison.Verdict.{Verdict}
use Rattle.trace_compare.specs.declared.comparison.Verdict.TheVariants as verdict
use Rattle.workbench.specs.{declared.fault.Fault.Fault, Compare.StopsComparing, Compare.verdict_line}

-- a word and a line, or only the word
abbrev pub line_behind : List ℕ → Option (List ℕ) → List ℕ
line_behind word None = word ++ codes "\n"
line_behind word (Some line) = word ++ (codes " " ++ (line ++ codes "\n"))

-- what a line of a trace has to be
abbrev pub wanted : List ℕ
wanted = codes "wanted STEP tN ROW WHAT, STEP xN ROW WHAT, or the lines of a state, from state CHOICES STEPS WORD on\n"

-- what follows a verdict: nothing if the trace is the run's; if a line differs, that of the trace and that of the run; and that of
-- what is no trace, and what it has to be
abbrev pub StandsBehind : Verdict → (trace run : Option (List ℕ)) → List ℕ → Type 0
StandsBehind verdict.Same trace run shown = shown ≡ []
StandsBehind (verdict.Differs n) trace run shown =
    shown ≡ line_behind (codes "trace") trace ++ line_behind (codes "run") run
StandsBehind (verdict.NotATrace n) trace run shown = shown ≡ line_behind (codes "trace") trace ++ wanted

-- the trace was read as far as the verdict needs; the line of the verdict was written, and what follows it; or why not, as `compare`
-- stops
abbrev pub ShowsComparison : Image → Result Judgement Fault → (trace_before trace_after : Option (List ℕ)) (trace_failed : Bool)
    (output_before output_after : Option (List ℕ)) (output_failed : Bool) → Type 0
ShowsComparison image (Ok judged) trace_before trace_after trace_failed output_before output_after output_failed =
    (shown : List ℕ) × (HasShown image trace_before trace_after judged.told
    × IsReadNoFurther trace_before trace_after judged.told.verdict
    × StandsBehind judged.told.verdict judged.trace judged.told.line shown
    × Appends output_before output_after (verdict_line judged.told.verdict ++ shown))
ShowsComparison image (Err f) trace_before trace_after trace_failed output_before output_after output_failed =
    StopsComparing f image trace_before trace_after trace_failed output_before output_after output_failed
