-- The trace of any choices has the verdict `Same`.
use Rattle.std.proofs.Common.{◌≡◌, ◌∙◌, ◌+◌, ◌<◌, ◌≤◌, ℕ, Bool, true, false, List, [], ◌∷◌, ◌++◌, length, cond, Option, Some, None, is_none, refl, ap, sym, arith, append_assoc, append-nil, All}
use Rattle.std.proofs.lemmas.{Bool.eqb-false, List.Elements.All-head, List.Elements.All-tail, Slice.Eq.bytes_eq-Decides}
use Rattle.std.specs.List.{slice_split}
use Rattle.line_reader.specs.Words.{is_line_end}
use Rattle.machine_scene.specs.Scene.{thread_at}
use Rattle.thread_machine.specs.{declared.choice.Choice.Choice, declared.fault.StepFault.StepFault, World.World, Step.played}
use Rattle.thread_machine.specs.declared.fault.StepFault.TheVariants.{NoSuchThread, StepLimit}
use Rattle.thread_machine.specs.Execution.{execution, execution_by}
use Rattle.trace_compare.specs.declared.comparison.Verdict.TheVariants as verdict
use Rattle.trace_text.specs.{Brief.IsBrief, Reading.is_state_line, State.state_text}
use Rattle.trace_text.specs.Trace.{lines_by, lines_of, trace_of}
use Rattle.trace_compare.specs.Compare.{lines_verdict, state_verdict}
use Rattle.trace_text.proofs.{Plays.played-choices, Naming.IsOwnLine, Naming.event-own, Naming.refusal-own}
use Rattle.trace_text.proofs.StateLines.{parts_text, state-is_state, state-line, state-whole}
use Rattle.trace_text.proofs.WholeLines.{AllWithin, IsWhole, after_line-is, first_line-is, split-line, whole}
use Rattle.trace_compare.proofs.{SameTrace.after_choice, SameTrace.left_by, Verdicts.state-same}

-- a thread that a line may name
abbrev pub IsNamed : Choice → Type 0
IsNamed choice = choice.thread ≤ 63

some_text : (line rest : List ℕ) → 0 < length ((line ++ 10 ∷ []) ++ rest)
some_text [] rest = omega arith
some_text (x ∷ line) rest = omega arith

-- the lines of a text against the same text
state-own : (lines : List (List ℕ)) (n : ℕ) → AllWithin lines
    → state_verdict (whole lines) n (slice_split is_line_end (whole lines)) ≡ verdict.Same
state-own [] n within = refl
state-own (line ∷ lines) n within =
    let rest = whole lines in
    let text = whole (line ∷ lines) in
    ap (state_verdict text n) (split-line line rest within.0)
    ∙ state-same text n line (slice_split is_line_end rest) (some_text line rest) (sym (first_line-is line rest within.0))
    ∙ ap (λ t. state_verdict t (n + 1) (slice_split is_line_end rest)) (after_line-is line rest within.0)
    ∙ state-own lines (n + 1) within.1

-- a state against its own text
state_again : (brief : Type 0) (text : List ℕ) (n : ℕ) → IsWhole brief text
    → state_verdict text n (slice_split is_line_end text) ≡ verdict.Same
state_again brief text n p = ap (λ t. state_verdict t n (slice_split is_line_end t)) p.is ∙ state-own p.lines n p.within

-- a line up to the state line
cond-yes : {A : Type 0} (b : Bool) (x y : A) → b ≡ true → cond b x y ≡ x
cond-yes b x y is = ap (λ c. cond c x y) is

states-same : (accepted : Bool) (world : World) (n : ℕ)
    → lines_verdict accepted world n (slice_split is_line_end (state_text world)) ≡ verdict.Same
states-same accepted world n =
    let text = state_text world in
    let first = state-line world in
    let rest = parts_text world in
    let is : text ≡ (first.line ++ 10 ∷ []) ++ rest = first.is ∙ sym (append_assoc first.line (10 ∷ []) rest) in
    let split : slice_split is_line_end text ≡ first.line ∷ slice_split is_line_end rest =
    ap (slice_split is_line_end) is ∙ split-line first.line rest first.part.within in
    ap (lines_verdict accepted world n) split
    ∙ cond-yes (is_state_line first.line) (state_verdict text n (first.line ∷ slice_split is_line_end rest)) _ (state-is_state world)
    ∙ ap (state_verdict text n) (sym split)
    ∙ state_again (All IsBrief world.scene.threads) text n (state-whole world)

-- a choice's line, by whether there is no such thread and whether nothing is left for it
line_by : (missing used : Bool) (world : World) (choice : Choice) → world.choices ≤ 1000000000000 → choice.thread ≤ 63
    → IsOwnLine choice (lines_by (cond missing (Some NoSuchThread) (cond used (Some StepLimit) None)) world choice
    (λ after. []))
line_by true used world choice few there = refusal-own (world.choices + 1) choice None (omega (arith, few)) there
line_by false true world choice few there =
    refusal-own (world.choices + 1) choice (Some (thread_at world.scene choice.thread).pc) (omega (arith, few)) there
line_by false false world choice few there = grind (arith, event-own, append-nil)

-- a choice of a thread from 0 to 63 has its own line
pub own-line : (world : World) (choice : Choice) → world.choices ≤ 1000000000000 → choice.thread ≤ 63
    → IsOwnLine choice (lines_of world (choice ∷ []))
own-line world choice few there = grind (arith, line_by)

-- the line of a choice before the others
pub choice-same : (world : World) (choice : Choice) (rest : List ℕ) (n : ℕ) → IsOwnLine choice (lines_of world (choice ∷ []))
    → lines_verdict true world n (slice_split is_line_end (lines_of world (choice ∷ []) ++ rest))
    ≡ lines_verdict (is_none (execution world (choice ∷ [])).refusal) (execution world (choice ∷ [])).world (n + 1)
    (slice_split is_line_end rest)
choice-same world choice rest n own = grind (arith, bytes_eq-Decides, split-line, cond-yes)

pub after_by : (refusal : Option StepFault) (world : World) (choice : Choice)
    → (execution_by refusal world choice (λ after. execution after [])).refusal ≡ None
    → (refusal ≡ None) × ((execution_by refusal world choice (λ after. execution after [])).world ≡ (played world choice).world)
after_by refusal world choice none = grind arith

pub counted : (world : World) (choice : Choice) → world.choices ≤ 1000000000000 → (execution world (choice ∷ [])).refusal ≡ None
    → (execution world (choice ∷ [])).world.choices ≤ 1000000000000
counted world choice few none = grind (arith, after_by, eqb-false, played-choices)

-- what follows a choice's line, by whether the choice was refused
rest_by : (refusal : Option StepFault) (world : World) (choice : Choice) (choices : List Choice) (n : ℕ)
    → (execution world (choice ∷ [])).refusal ≡ refusal → world.choices ≤ 1000000000000
    → ((after : World) → after.choices ≤ 1000000000000
    → lines_verdict true after n (slice_split is_line_end (trace_of after choices)) ≡ verdict.Same)
    → lines_verdict (is_none refusal) (execution world (choice ∷ [])).world n
    (slice_split is_line_end (left_by (is_none refusal) (execution world (choice ∷ [])).world choices)) ≡ verdict.Same
rest_by refusal world choice choices n is few rest = grind (arith, counted, states-same)

pub own-trace : (choices : List Choice) (world : World) (n : ℕ) → world.choices ≤ 1000000000000
    → All IsNamed choices
    → lines_verdict true world n (slice_split is_line_end (trace_of world choices)) ≡ verdict.Same
own-trace [] world n few there = states-same true world n
own-trace (choice ∷ choices) world n few there =
    let refusal = (execution world (choice ∷ [])).refusal in
    let rest = left_by (is_none refusal) (execution world (choice ∷ [])).world choices in
    ap (λ t. lines_verdict true world n (slice_split is_line_end t)) (sym (after_choice world choice choices refusal refl))
    ∙ choice-same world choice rest n (own-line world choice few (All-head IsNamed choice choices there))
    ∙ rest_by refusal world choice choices (n + 1) refl few
    (λ after more. own-trace choices after (n + 1) more (All-tail IsNamed choice choices there))
