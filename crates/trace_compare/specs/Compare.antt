-- The result of comparing a trace with the run that it names.
use Rattle.std.specs.Prelude.{◌≡◌, ◌⊎◌, ℕ, ◌+◌, ◌-◌, ◌&&◌, ◌≤◌, ◌<◌, if◌then◌else◌, Bool, true, false, IsTrue, List, [], ◌∷◌, ◌++◌, length, Option, Some, None, Result, Ok, Err, is_none, zero, suc}
use Rattle.std.specs.{Io.KnownBytes.Appends, Io.KnownBytes.Consumes, Io.KnownBytes.IsAtEnd, Str.bytes_eq}
use Rattle.std.specs.List.{before_first, count_by, slice_split}
use Rattle.line_reader.specs.Words.{is_line_end}
use Rattle.row_code.specs.declared.image.Image.{Image}
use Rattle.thread_machine.specs.{declared.choice.Choice.Choice, World.World, Execution.execution}
use Rattle.loader.specs.Fault.{first_fault}
use Rattle.trace_compare.specs.declared.comparison.{CompareFault.CompareFault, Verdict.Verdict}
use Rattle.trace_compare.specs.declared.comparison.CompareFault.TheVariants as fault
use Rattle.trace_compare.specs.declared.comparison.Verdict.TheVariants as verdict
use Rattle.trace_text.specs.Reading.{after_line, choice_in, first_line, is_state_line, is_too_long}
use Rattle.trace_text.specs.{RunText.GivesOnAndOn, Start.Begins, Start.IsRefused, Start.is_want_of_memory, State.state_text}
use Rattle.trace_text.specs.Trace.{lines_of, trace_of}

-- the verdict on a line that isn't the run's own: only such a line is asked for its length
abbrev pub otherwise : ℕ → List ℕ → Verdict
otherwise n line = if is_too_long line then verdict.NotATrace n else verdict.Differs n

-- the lines from the state's line on, by the text that should still follow; the first line has this number, and the last piece
-- is what follows the last LF
abbrev pub state_verdict : List ℕ → ℕ → List (List ℕ) → Verdict
state_verdict [] n [] = verdict.Differs (n - 1)
state_verdict (byte ∷ text) n [] = verdict.Differs n
state_verdict [] n ([] ∷ []) = verdict.Same
state_verdict [] n (line ∷ lines) = otherwise n line
state_verdict (byte ∷ text) n (line ∷ lines) =
    if bytes_eq (line ++ (10 ∷ [])) (first_line (byte ∷ text))
    then state_verdict (after_line (byte ∷ text)) (n + 1) lines
    else otherwise n line

-- a line that names this choice, if it names one: it has to be the run's own line, and no choice may have been refused
-- before it
abbrev pub choice_verdict : Option Choice → Bool → World → ℕ → List ℕ → (Bool → World → Verdict) → Verdict
choice_verdict None accepted world n line rest = verdict.NotATrace n
choice_verdict (Some choice) accepted world n line rest =
    let played = execution world (choice ∷ []) in
    if accepted && bytes_eq (line ++ (10 ∷ [])) (lines_of world (choice ∷ []))
    then rest (is_none played.refusal) played.world
    else otherwise n line

-- the lines up to the state's line, and the state after them; the first line has this number
abbrev pub lines_verdict : Bool → World → ℕ → List (List ℕ) → Verdict
lines_verdict accepted world n [] = verdict.NotATrace n
lines_verdict accepted world n (line ∷ lines) =
    if is_state_line line then state_verdict (state_text world) n (line ∷ lines)
    else choice_verdict (choice_in line) accepted world n line (λ accepted after. lines_verdict accepted after (n + 1) lines)

-- a choice before others, if a line names one
abbrev pub with_choice : Option Choice → List Choice → List Choice
with_choice None choices = []
with_choice (Some choice) choices = choice ∷ choices

-- the choices that lines name, up to the state line
abbrev pub choices_in : List (List ℕ) → List Choice
choices_in [] = []
choices_in (line ∷ lines) = if is_state_line line then [] else with_choice (choice_in line) (choices_in lines)

-- the choices that a trace names
abbrev pub choices_of_trace : List ℕ → List Choice
choices_of_trace trace = choices_in (slice_split is_line_end trace)

-- a whole trace beside the run of the program that begins in this world
abbrev pub verdict_of : World → List ℕ → Verdict
verdict_of world trace = lines_verdict true world 1 (slice_split is_line_end trace)

-- line n of a text, counted from 0, without its LF, if the text has so many
abbrev pub line_at : ℕ → List ℕ → Option (List ℕ)
line_at n [] = None
line_at zero (byte ∷ text) = Some (before_first is_line_end (byte ∷ text))
line_at (suc n) (byte ∷ text) = line_at n (after_line (byte ∷ text))

-- the line of a text that a verdict says differs; the text's first line has the number `first`
abbrev pub line_by : Verdict → ℕ → List ℕ → Option (List ℕ)
line_by (verdict.Differs n) first text = line_at (n - first) text
line_by v first text = None

-- what is reported about a trace: the verdict, and the run's line where the trace's line differs, if the run has one there
pub record Reported : Type 0 where
  pub verdict : Verdict
  pub line : Option (List ℕ)

-- the same for a whole trace: the run's line comes from the trace of the choices that the lines name
abbrev pub reported_of : World → List ℕ → Reported
reported_of world trace =
    let v = verdict_of world trace in
    record { verdict = v; line = line_by v 1 (trace_of world (choices_of_trace trace)) }

-- a trace that begins with these bytes has this verdict: it ends with them, or whatever comes after them makes no difference
abbrev pub HasVerdict : World → List ℕ → Option (List ℕ) → Verdict → Type 0
HasVerdict world bytes left v =
    (IsAtEnd left × (verdict_of world bytes ≡ v)) ⊎ ((rest : List ℕ) → verdict_of world (bytes ++ rest) ≡ v)

-- a trace was read as far as its verdict needs, and this is the verdict
abbrev pub HasCompared : Image → Option (List ℕ) → Option (List ℕ) → Verdict → Type 0
HasCompared image before after v =
    (world : World) × ((bytes : List ℕ)
    × (Begins image world × Consumes before after bytes × HasVerdict world bytes after v))

-- the same for what is reported
abbrev pub HasReported : World → List ℕ → Option (List ℕ) → Reported → Type 0
HasReported world bytes left told =
    (IsAtEnd left × (reported_of world bytes ≡ told)) ⊎ ((rest : List ℕ) → reported_of world (bytes ++ rest) ≡ told)

abbrev pub HasShown : Image → Option (List ℕ) → Option (List ℕ) → Reported → Type 0
HasShown image before after told =
    (world : World) × ((bytes : List ℕ)
    × (Begins image world × Consumes before after bytes × HasReported world bytes after told))

-- no line after this one was read whole, except those that came in one piece with its end
abbrev pub IsReadUpTo : ℕ → Option (List ℕ) → Option (List ℕ) → Type 0
IsReadUpTo line before after =
    (front : List ℕ) × ((piece : List ℕ)
    × (Consumes before after (front ++ piece) × (length piece ≤ 16384) × (count_by is_line_end front < line)))

-- a trace that is the same was read to its end, another one up to the line of its verdict
abbrev pub IsReadNoFurther : Option (List ℕ) → Option (List ℕ) → Verdict → Type 0
IsReadNoFurther before after verdict.Same = IsAtEnd after
IsReadNoFurther before after (verdict.Differs line) = IsReadUpTo line before after
IsReadNoFurther before after (verdict.NotATrace line) = IsReadUpTo line before after

-- what is reported, and the line of the trace that the verdict names, if it has one
pub record Judgement : Type 0 where
  pub told : Reported
  pub trace : Option (List ℕ)

-- why there is no verdict: the image can't be loaded, for a reason other than memory, and nothing was read; or it is out of
-- memory; or the image can be loaded, and the trace can't be read
abbrev pub StopsFor : CompareFault → Image → (before after : Option (List ℕ)) (failed : Bool) → Type 0
StopsFor (fault.Load f) image before after failed = IsRefused f image × (is_want_of_memory f ≡ false) × (after ≡ before)
StopsFor fault.Memory image before after failed = Unit {0}
StopsFor fault.Read image before after failed = (first_fault image ≡ None) × (IsTrue failed ⊎ GivesOnAndOn before after)

-- a comparison came to this verdict, or stopped
abbrev pub Compares : Image → Result Verdict CompareFault → (before after : Option (List ℕ)) (failed : Bool) → Type 0
Compares image (Ok v) before after failed = HasCompared image before after v × IsReadNoFurther before after v
Compares image (Err f) before after failed = StopsFor f image before after failed

-- a comparison came to a verdict and reports this, or it stopped
abbrev pub Judges : Image → Result Judgement CompareFault → (before after : Option (List ℕ)) (failed : Bool) → Type 0
Judges image (Ok judged) before after failed =
    HasShown image before after judged.told × IsReadNoFurther before after judged.told.verdict
Judges image (Err f) before after failed = StopsFor f image before after failed

-- every comparison of the trace with this program that returns a verdict returns `Same`
abbrev pub IsFoundTheSame : Image → List ℕ → Type 0
IsFoundTheSame image trace = (left : List ℕ) (v : Verdict) → HasCompared image (Some trace) (Some left) v → v ≡ verdict.Same

-- a trace was written, and a comparison with this program finds it the same
abbrev pub HasWrittenTheSame : Image → Option (List ℕ) → Option (List ℕ) → Type 0
HasWrittenTheSame image output_before output_after =
    (trace : List ℕ) × (Appends output_before output_after trace × IsFoundTheSame image trace)
