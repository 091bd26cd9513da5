-- The run's line beside a verdict.
use Rattle.std.proofs.Common.{◌≡◌, ◌∙◌, ◌↔◌, ◌+◌, ◌-◌, ◌<◌, ◌≤◌, ℕ, suc, Bool, true, false, List, [], ◌∷◌, ◌++◌, length, take, drop, cond, Option, Some, None, IsTrue, is_none, refl, ap, sym, arith, append_assoc, append-nil, length-append, nat_le, take-append-drop, rules, drop-drop}
use Rattle.std.proofs.lemmas.{List.Elements.All-head, List.Elements.All-tail, Slice.Eq.bytes_eq-Decides}
use Rattle.std.proofs.Math.Seq.{drop-append_seam, take-append_seam}
use Rattle.std.specs.{List.position_or_len, Str.bytes_eq}
use Rattle.byte_ports.specs.SourceLines.{IsOneLine}
use Rattle.line_reader.specs.Words.{is_line_end}
use Rattle.machine_scene.specs.Scene.{thread_at}
use Rattle.thread_machine.specs.{declared.choice.Choice.Choice, declared.fault.StepFault.StepFault, Execution.execution, Step.is_used_up, World.World, World.world_of}
use Rattle.thread_machine.specs.declared.fault.StepFault.TheVariants.{NoSuchThread, StepLimit}
use Rattle.trace_compare.specs.declared.comparison.{Comparison.Comparison, Verdict.Verdict}
use Rattle.trace_compare.specs.Compare.{choice_verdict, choices_in, line_at, line_by, lines_verdict, otherwise, state_verdict}
use Rattle.trace_compare.specs.Comparing.{HasEndedBehind, MeetsText, lines_left, line_kept, text_left, reported_by, reported_left}
use Rattle.trace_compare.specs.declared.comparison.Verdict.TheVariants as verdict
use Rattle.trace_text.specs.Reading.{after_line, choice_in, first_line, is_state_line, is_too_long}
use Rattle.trace_text.specs.{State.state_text, Trace.Plays, Trace.lines_by, Trace.lines_of, Trace.trace_of}
use Rattle.trace_text.proofs.{Naming.event-one, Naming.refusal-one, WholeLines.IsLine, WholeLines.no_end}
use Rattle.trace_compare.proofs.SameTrace.{after_choice, left_by}

-- ---- a text's lines

first-one : (line rest : List ℕ) → IsOneLine line → position_or_len is_line_end ((line ++ 10 ∷ []) ++ rest) ≡ length line
first-one [] rest one = refl
first-one (x ∷ xs) rest one = grind (arith, All-head, All-tail, first-one xs rest (All-tail (λ b. is_line_end b ≡ false) x xs one))

some_first : (text : List ℕ) → 0 < length text → line_at 0 text ≡ Some (take (position_or_len is_line_end text) text)
some_first text some = grind arith

some_next : (n : ℕ) (text : List ℕ) → 0 < length text → line_at (suc n) text ≡ line_at n (after_line text)
some_next n text some = grind arith

some_text : (line rest : List ℕ) → 0 < length ((line ++ 10 ∷ []) ++ rest)
some_text line rest = omega (arith, length-append (line ++ 10 ∷ []) rest, length-append line (10 ∷ []))

pub at-first : (line rest : List ℕ) → IsOneLine line → line_at 0 ((line ++ 10 ∷ []) ++ rest) ≡ Some line
at-first line rest one = grind (arith, some_first, some_text, first-one, append_assoc, take-append_seam)

pub at-next : (n : ℕ) (line rest : List ℕ) → IsOneLine line → line_at (suc n) ((line ++ 10 ∷ []) ++ rest) ≡ line_at n rest
at-next n line rest one =
    let text = (line ++ 10 ∷ []) ++ rest in
    some_next n text (some_text line rest)
    ∙ ap (λ k. line_at n (drop k text)) (ap (λ k. k + 1) (first-one line rest one) ∙ sym (length-append line (10 ∷ [])))
    ∙ ap (line_at n) (drop-append_seam (line ++ 10 ∷ []) rest)

-- ---- where a line can differ

late_other : (long : Bool) (n m : ℕ) → cond long (verdict.NotATrace n) (verdict.Differs n) ≡ verdict.Differs m → n ≤ m
late_other true n m is = let no : ⊥ = cc in absurd no
late_other false n m is = let same : n ≡ m = cc in omega (arith, same)

late_by : (same : Bool) (n m : ℕ) (line : List ℕ) (rest : Verdict) → cond same rest (otherwise n line) ≡ verdict.Differs m
    → (rest ≡ verdict.Differs m → n ≤ m) → n ≤ m
late_by true n m line rest is late = late is
late_by false n m line rest is late = late_other (is_too_long line) n m is

-- no line before the first one of those that are left, but where none is left
late_state : (lines : List (List ℕ)) (text : List ℕ) (n m : ℕ) → state_verdict text n lines ≡ verdict.Differs m → n ≤ m + (1 - length lines)
late_state [] [] n m is = let same : n - 1 ≡ m = cc in omega (arith, same)
late_state [] (byte ∷ text) n m is = let same : n ≡ m = cc in omega (arith, same)
late_state ([] ∷ []) [] n m is = let no : ⊥ = cc in absurd no
late_state ([] ∷ next ∷ lines) [] n m is = let late = late_other (is_too_long []) n m is in omega (arith, late)
late_state ((x ∷ line) ∷ lines) [] n m is = let late = late_other (is_too_long (x ∷ line)) n m is in omega (arith, late)
late_state (line ∷ lines) (byte ∷ text) n m is =
    let late : n ≤ m =
    late_by (bytes_eq (line ++ (10 ∷ [])) (first_line (byte ∷ text))) n m line (state_verdict (after_line (byte ∷ text)) (n + 1) lines) is
    (λ rest. let more = late_state lines (after_line (byte ∷ text)) (n + 1) m rest in omega (arith, more)) in
    omega (arith, late)

late_choice : (named : Option Choice) (accepted : Bool) (world : World) (n m : ℕ) (line : List ℕ) (rest : Bool → World → Verdict)
    → ((accepted : Bool) (after : World) → rest accepted after ≡ verdict.Differs m → n ≤ m)
    → choice_verdict named accepted world n line rest ≡ verdict.Differs m → n ≤ m
late_choice named accepted world n m line rest late is = grind arith

late_lines : (lines : List (List ℕ)) (accepted : Bool) (world : World) (n m : ℕ)
    → lines_verdict accepted world n lines ≡ verdict.Differs m → n ≤ m + (1 - length lines)
late_lines [] accepted world n m is = let no : ⊥ = cc in absurd no
late_lines (line ∷ lines) accepted world n m is =
    by (is_state_line line)
    (λ accepted after rest. let more = late_lines lines accepted after (n + 1) m rest in omega (arith, more)) is
  where
    by : (state : Bool) → ((accepted : Bool) (after : World) → lines_verdict accepted after (n + 1) lines ≡ verdict.Differs m → n ≤ m)
        → cond state (state_verdict (state_text world) n (line ∷ lines))
        (choice_verdict (choice_in line) accepted world n line (λ accepted after. lines_verdict accepted after (n + 1) lines)) ≡ verdict.Differs m
        → n ≤ m + (1 - length (line ∷ lines))
    by true late is = late_state (line ∷ lines) (state_text world) n m is
    by false late is = let few = late_choice (choice_in line) accepted world n m line _ late is in omega (arith, few)

late_left : (now : Comparison) (lines : List (List ℕ)) (m : ℕ) → 0 < length lines → lines_left now lines ≡ verdict.Differs m → now.number ≤ m
late_left now lines m some is = by now.is_state is
  where
    by : (state : Bool) → cond state (state_verdict (drop now.at now.text.items) now.number lines)
        (lines_verdict now.accepted (world_of now.machine) now.number lines) ≡ verdict.Differs m → now.number ≤ m
    by true is = let late = late_state lines (drop now.at now.text.items) now.number m is in omega (arith, late, some)
    by false is = let late = late_lines lines now.accepted (world_of now.machine) now.number m is in omega (arith, late, some)

-- ---- what is told

-- by a verdict and the line
refusal_reported : (now : Comparison) (lines : List (List ℕ)) (v : Verdict) (line : Option (List ℕ)) → lines_left now lines ≡ v
    → line_by v now.number (text_left now lines) ≡ line → reported_left now lines ≡ record { verdict = v; line = line }
refusal_reported now lines v line is line_is = grind arith

behind_line : (v : Verdict) (first next : ℕ) (line text rest : List ℕ) → IsOneLine line → next ≡ first + 1
    → ((m : ℕ) → v ≡ verdict.Differs m → next ≤ m) → text ≡ (line ++ 10 ∷ []) ++ rest → line_by v first text ≡ line_by v next rest
behind_line (verdict.Differs n) first next line text rest one next_is late is =
    let few = late n refl in
    let more : n - first ≡ suc (n - next) = omega (arith, few, next_is) in
    ap (line_at (n - first)) is ∙ ap (λ k. line_at k ((line ++ 10 ∷ []) ++ rest)) more ∙ at-next (n - next) line rest one
behind_line v first next line text rest one next_is late is = refl

-- a line that is the run's
pub told-met : (before after : Comparison) (line : List ℕ) (lines : List (List ℕ)) → IsOneLine line → 0 < length lines
    → after.number ≡ before.number + 1 → lines_left before (line ∷ lines) ≡ lines_left after lines
    → MeetsText before after line lines None → reported_left before (line ∷ lines) ≡ reported_left after lines
told-met before after line lines one some next same meets = search (rules, refusal_reported, behind_line, late_left)

-- one that isn't
pub told-other : (before after : Comparison) (line : List ℕ) (lines : List (List ℕ)) (v : Verdict)
    → lines_left before (line ∷ lines) ≡ v → MeetsText before after line lines (Some v) → reported_left before (line ∷ lines) ≡ reported_by v after
told-other before after line lines (verdict.Differs n) is (here, kept) =
    let first : n - before.number ≡ 0 = omega (arith, here) in
    refusal_reported before (line ∷ lines) (verdict.Differs n) (line_kept after) is
    (ap (λ k. line_at k (text_left before (line ∷ lines))) first ∙ kept)
told-other before after line lines v is meets = grind (arith, refusal_reported)

-- the last one
pub told-ended : (before after last : Comparison) (line : List ℕ) (v : Verdict) → after.number ≡ before.number + 1
    → lines_left before (line ∷ []) ≡ v → MeetsText before after line [] None → HasEndedBehind after last line v
    → reported_left before (line ∷ []) ≡ reported_by v last
told-ended before after last line v next is meets kept = grind arith

-- two comparisons to which the same line is another one
pub told-alike : (a b : Comparison) (line : List ℕ) (lines : List (List ℕ)) (n : ℕ) → a.number ≡ n → b.number ≡ n
    → lines_left a (line ∷ lines) ≡ otherwise n line → lines_left b (line ∷ lines) ≡ otherwise n line
    → line_at 0 (text_left a (line ∷ lines)) ≡ line_at 0 (text_left b (line ∷ lines)) → reported_left a (line ∷ lines) ≡ reported_left b (line ∷ lines)
told-alike a b line lines n a_is b_is one two same =
    refusal_reported a (line ∷ lines) (otherwise n line) _ one (by (is_too_long line))
    ∙ sym (refusal_reported b (line ∷ lines) (otherwise n line) _ two refl)
  where
    by : (long : Bool) → line_by (cond long (verdict.NotATrace n) (verdict.Differs n)) a.number (text_left a (line ∷ lines))
        ≡ line_by (cond long (verdict.NotATrace n) (verdict.Differs n)) b.number (text_left b (line ∷ lines))
    by true = refl
    by false =
        let first : n - a.number ≡ 0 = omega (arith, a_is) in
        let again : 0 ≡ n - b.number = omega (arith, b_is) in
        ap (λ k. line_at k (text_left a (line ∷ lines))) first ∙ same ∙ ap (λ k. line_at k (text_left b (line ∷ lines))) again

-- by the comparison from which a line is met
pub meets-from : (a b after : Comparison) (line : List ℕ) (lines : List (List ℕ)) (v : Option Verdict) → a.number ≡ b.number
    → text_left a (line ∷ lines) ≡ text_left b (line ∷ lines) → MeetsText b after line lines v → MeetsText a after line lines v
meets-from a b after line lines v same text meets = grind arith

-- ---- the run's text

-- whether no choice was refused
pub none_by : (refusal : Option StepFault) (all : Bool) → (IsTrue all ↔ (refusal ≡ None)) → is_none refusal ≡ all
none_by refusal all is = grind arith

-- the line of a choice is one, whatever becomes of it
one_by : (missing used : Bool) (world : World) (choice : Choice)
    → IsLine 407 (lines_by (cond missing (Some NoSuchThread) (cond used (Some StepLimit) None)) world choice (λ after. [])) []
one_by true used world choice = refusal-one (world.choices + 1) choice None
one_by false true world choice = refusal-one (world.choices + 1) choice (Some (thread_at world.scene choice.thread).pc)
one_by false false world choice = grind (arith, event-one, append-nil)

pub one-line : (world : World) (choice : Choice) → IsLine 407 (lines_of world (choice ∷ [])) []
one-line world choice = one_by (nat_le (length world.scene.threads) choice.thread) (is_used_up world choice) world choice

-- which is the first of the trace that goes on behind it
pub first-own : (world : World) (choice : Choice) (choices : List Choice)
    → line_at 0 (trace_of world (choice ∷ choices)) ≡ line_at 0 (lines_of world (choice ∷ []))
first-own world choice choices =
    let own = one-line world choice in
    let rest = left_by (is_none (execution world (choice ∷ [])).refusal) (execution world (choice ∷ [])).world choices in
    ap (line_at 0) (sym (after_choice world choice choices _ refl) ∙ ap (λ t. t ++ rest) own.is)
    ∙ at-first own.line rest (no_end own.line own.part.within)
    ∙ sym (ap (line_at 0) (own.is ∙ sym (append-nil (own.line ++ 10 ∷ []))) ∙ at-first own.line [] (no_end own.line own.part.within))

-- before the state line
text-lines : (now : Comparison) (more : Bool) (lines : List (List ℕ)) → now.is_state ≡ false → now.accepted ≡ more
    → (more ≡ false → now.missed ≡ false) → text_left now lines ≡ left_by more (world_of now.machine) (choices_in lines)
text-lines now true lines state more missed = rw (state, more) refl
text-lines now false lines state more missed = rw (state, more, missed refl) refl

pub text-choice : (now : Comparison) (choice : Choice) (line : List ℕ) (lines : List (List ℕ)) → now.is_state ≡ false
    → now.accepted ≡ true → is_state_line line ≡ false → choice_in line ≡ Some choice
    → text_left now (line ∷ lines) ≡ trace_of (world_of now.machine) (choice ∷ choices_in lines)
text-choice now choice line lines state accepted no_state names = grind arith

-- a choice whose line is the trace's
pub meets-choice : (before after : Comparison) (choice : Choice) (more : Bool) (line text : List ℕ) (lines : List (List ℕ))
    → before.is_state ≡ false → before.accepted ≡ true → after.is_state ≡ false → after.accepted ≡ more
    → (more ≡ false → after.missed ≡ false) → is_state_line line ≡ false → choice_in line ≡ Some choice → line ++ 10 ∷ [] ≡ text
    → Plays (world_of before.machine) (world_of after.machine) (choice ∷ []) more (Some []) (Some text) → MeetsText before after line lines None
meets-choice before after choice more line text lines state accepted still more_is missed no_state names same p =
    let world = world_of before.machine in
    let choices = choices_in lines in
    text-choice before choice line lines state accepted no_state names
    ∙ sym (after_choice world choice choices _ refl)
    ∙ ap (λ t. t ++ left_by (is_none (execution world (choice ∷ [])).refusal) (execution world (choice ∷ [])).world choices) (sym (same ∙ p.lines))
    ∙ ap (λ all. (line ++ 10 ∷ []) ++ left_by all (execution world (choice ∷ [])).world choices) (none_by _ more p.answer)
    ∙ ap (λ w. (line ++ 10 ∷ []) ++ left_by more w choices) (sym p.world)
    ∙ ap (λ t. (line ++ 10 ∷ []) ++ t) (sym (text-lines after more lines still more_is missed))

-- a line that is the state's first
pub text-state : (now : Comparison) (line : List ℕ) (lines : List (List ℕ)) → now.is_state ≡ false → is_state_line line ≡ true
    → text_left now (line ∷ lines) ≡ state_text (world_of now.machine)
text-state now line lines state first = grind arith

-- one that is missed
pub text-missed : (now : Comparison) (line : List ℕ) (lines : List (List ℕ)) → now.is_state ≡ false → now.accepted ≡ false
    → now.missed ≡ true → is_state_line line ≡ false → text_left now (line ∷ lines) ≡ now.expected
text-missed now line lines state accepted missed no_state = rw (state, accepted, missed, no_state) refl

-- the line that is kept
pub kept-own : (now : Comparison) → now.is_state ≡ false → now.accepted ≡ true → line_at 0 now.expected ≡ line_kept now
kept-own now state accepted = rw (state, accepted) refl

pub kept-state : (now : Comparison) (lines : List (List ℕ)) → now.is_state ≡ true → line_at 0 (text_left now lines) ≡ line_kept now
kept-state now lines state = rw state refl

-- a line of the state text, and what is due behind it
pub due-parts : (text due : List ℕ) (at end : ℕ) (line part : List ℕ) → due ≡ drop at text
    → bytes_eq (line ++ (10 ∷ [])) part ≡ true → part ≡ take end due → drop at text ≡ (line ++ 10 ∷ []) ++ drop (at + end) text
due-parts text due at end line part due_is same taken =
    sym due_is ∙ sym (take-append-drop end due)
    ∙ ap (λ t. t ++ drop end due) (sym ((bytes_eq-Decides (line ++ (10 ∷ [])) part).0 same ∙ taken))
    ∙ ap (λ t. (line ++ 10 ∷ []) ++ t) (ap (drop end) due_is ∙ drop-drop end at text)
