-- A trace with the verdict `Same` is the trace of the choices that it names.
use Rattle.std.proofs.Common.{◌≡◌, ◌∙◌, ◌+◌, ◌<◌, ℕ, Bool, true, false, List, [], ◌∷◌, ◌++◌, length, cond, Option, is_none, refl, ap, sym, arith, append_assoc, take-append-drop}
use Rattle.std.proofs.lemmas.{List.Splits.join_with_byte-slice_split, Slice.Eq.bytes_eq-Decides}
use Rattle.std.specs.{List.slice_split, List.join_with_byte, List.position_or_len, Str.bytes_eq}
use Rattle.line_reader.specs.Words.{is_line_end}
use Rattle.thread_machine.specs.{declared.choice.Choice.Choice, declared.fault.StepFault.StepFault, World.World}
use Rattle.thread_machine.specs.Execution.{execution}
use Rattle.trace_compare.specs.declared.comparison.Verdict.{Verdict}
use Rattle.trace_compare.specs.Compare.{choice_verdict, choices_in, choices_of_trace, lines_verdict, otherwise, state_verdict, verdict_of, with_choice}
use Rattle.trace_compare.specs.declared.comparison.Verdict.TheVariants as verdict
use Rattle.trace_text.specs.Reading.{after_line, choice_in, first_line, is_state_line, is_too_long}
use Rattle.trace_text.specs.{State.state_text, Trace.lines_of, Trace.trace_of}
use Rattle.trace_text.proofs.Plays.{goes_on, stops}

abbrev joined : List (List ℕ) → List ℕ
joined lines = join_with_byte 10 lines

-- a line before others
joined-line : (line : List ℕ) (lines : List (List ℕ)) → 0 < length lines
    → joined (line ∷ lines) ≡ (line ++ 10 ∷ []) ++ joined lines
joined-line line lines some = grind (arith, append_assoc)

-- a line that passed
refuted : {P : Type 0} (long : Bool) (n : ℕ) → cond long (verdict.NotATrace n) (verdict.Differs n) ≡ verdict.Same → P
refuted true n e = let no : ⊥ = cc in absurd no
refuted false n e = let no : ⊥ = cc in absurd no

passed : (same : Bool) (n : ℕ) (line : List ℕ) (rest : Verdict) → cond same rest (otherwise n line) ≡ verdict.Same
    → (same ≡ true) × (rest ≡ verdict.Same)
passed true n line rest e = (refl, e)
passed false n line rest e = refuted (is_too_long line) n e

-- something is left where the state text is due
some_state : (text : List ℕ) (n : ℕ) (lines : List (List ℕ)) → state_verdict text n lines ≡ verdict.Same → 0 < length lines
some_state text n lines e = grind arith

-- the state text
state-joined : (lines : List (List ℕ)) (text : List ℕ) (n : ℕ) → state_verdict text n lines ≡ verdict.Same → joined lines ≡ text
state-joined (line ∷ lines) (byte ∷ text) n e =
    let whole = byte ∷ text in
    let p = passed (bytes_eq (line ++ (10 ∷ [])) (first_line whole)) n line (state_verdict (after_line whole) (n + 1) lines) e in
    joined-line line lines (some_state (after_line whole) (n + 1) lines p.1)
    ∙ ap (λ bytes. bytes ++ joined lines) ((bytes_eq-Decides (line ++ (10 ∷ [])) (first_line whole)).0 p.0)
    ∙ ap (λ bytes. first_line whole ++ bytes) (state-joined lines (after_line whole) (n + 1) p.1)
    ∙ take-append-drop (position_or_len is_line_end whole + 1) whole
state-joined lines text n e = grind (arith, refuted, passed, joined-line, some_state, bytes_eq-Decides, take-append-drop)

-- what is left of a trace, by whether all choices so far were accepted
abbrev pub left_by : Bool → World → List Choice → List ℕ
left_by true world choices = trace_of world choices
left_by false world choices = state_text world

left_by-none : (accepted : Bool) (world : World) → state_text world ≡ left_by accepted world []
left_by-none true world = refl
left_by-none false world = refl

-- a choice's line before the others
pub after_choice : (world : World) (choice : Choice) (choices : List Choice) (refusal : Option StepFault)
    → (execution world (choice ∷ [])).refusal ≡ refusal
    → lines_of world (choice ∷ []) ++ left_by (is_none refusal) (execution world (choice ∷ [])).world choices
    ≡ trace_of world (choice ∷ choices)
after_choice world choice choices refusal is = grind (arith, goes_on, append_assoc, stops)

-- one line more
line-joined : (state : Bool) (named : Option Choice) (accepted : Bool) (world : World) (n : ℕ) (line : List ℕ) (lines : List (List ℕ))
    → ((a : Bool) (w : World) → lines_verdict a w (n + 1) lines ≡ verdict.Same → joined lines ≡ left_by a w (choices_in lines))
    → cond state (state_verdict (state_text world) n (line ∷ lines))
    (choice_verdict named accepted world n line (λ a w. lines_verdict a w (n + 1) lines)) ≡ verdict.Same
    → joined (line ∷ lines) ≡ left_by accepted world (cond state [] (with_choice named (choices_in lines)))
line-joined true named accepted world n line lines rest e =
    state-joined (line ∷ lines) (state_text world) n e ∙ left_by-none accepted world
line-joined false named accepted world n line lines rest e = grind (arith, state-joined, left_by-none, refuted, passed, joined-line, bytes_eq-Decides, after_choice)

lines-joined : (lines : List (List ℕ)) (accepted : Bool) (world : World) (n : ℕ) → lines_verdict accepted world n lines ≡ verdict.Same
    → joined lines ≡ left_by accepted world (choices_in lines)
lines-joined [] accepted world n e = let no : ⊥ = cc in absurd no
lines-joined (line ∷ lines) accepted world n e =
    line-joined (is_state_line line) (choice_in line) accepted world n line lines
    (λ a w same. lines-joined lines a w (n + 1) same) e

pub same-trace : (world : World) (trace : List ℕ) → verdict_of world trace ≡ verdict.Same → trace ≡ trace_of world (choices_of_trace trace)
same-trace world trace e =
    sym (join_with_byte-slice_split 10 trace) ∙ lines-joined (slice_split is_line_end trace) true world 1 e
