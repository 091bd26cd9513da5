-- The choices of the trace of a schedule.
use Rattle.std.proofs.Common.{◌≡◌, ◌∙◌, ◌+◌, ◌≤◌, ℕ, Bool, true, false, List, [], ◌∷◌, ◌++◌, length, cond, Option, None, is_none, Ok, refl, ap, sym, arith, append_assoc, All, le-ltb}
use Rattle.std.proofs.lemmas.List.Elements.{All-head, All-tail}
use Rattle.std.specs.List.{slice_split}
use Rattle.line_reader.specs.Words.{is_line_end}
use Rattle.thread_machine.specs.{declared.choice.Choice.Choice, declared.fault.StepFault.StepFault, World.World}
use Rattle.thread_machine.specs.{Step.refusal_of, Execution.execution, Execution.execution_by}
use Rattle.trace_text.specs.{Reading.choice_in, Reading.is_too_long, State.state_text}
use Rattle.trace_text.specs.Trace.{lines_by, lines_of, trace_of}
use Rattle.trace_text.proofs.{Naming.IsOwnLine, StateLines.parts_text, StateLines.state-is_state, StateLines.state-line}
use Rattle.trace_text.proofs.WholeLines.{split-line}
use Rattle.trace_compare.proofs.OwnTrace.{IsNamed, after_by, counted, own-line}
use Rattle.trace_compare.proofs.SameTrace.{after_choice, left_by}
use Rattle.trace_compare.specs.{declared.line_names.LineNames.LineNames, Shown.behind, Shown.shown}
use Rattle.trace_compare.specs.Naming.{Naming, behind_choices, choices_named, ended, named, naming_by, naming_from}
use Rattle.trace_compare.specs.declared.line_names.LineNames.TheVariants as names

-- choices, and a state behind them
abbrev whole : List Choice → Naming
whole choices = record { choices = choices; no_line = None }

-- what a line names, by its parts
state_by : (long state : Bool) (choice : Option Choice) → long ≡ false → state ≡ true
    → cond long names.Nothing (cond state names.State (named choice)) ≡ names.State
state_by false true choice short is = refl
state_by _ _ choice short is = let no : ⊥ = cc in absurd no

-- the state line
states-named : (world : World) (n : ℕ) → naming_from n (slice_split is_line_end (state_text world)) ≡ ended None
states-named world n =
    let first = state-line world in
    let rest = parts_text world in
    let is : state_text world ≡ (first.line ++ 10 ∷ []) ++ rest = first.is ∙ sym (append_assoc first.line (10 ∷ []) rest) in
    let few : length first.line ≤ 141 = first.part.few in
    let short : is_too_long first.line ≡ false = le-ltb 65536 (length first.line) (omega (arith, few)) in
    ap (λ text. naming_from n (slice_split is_line_end text)) is
    ∙ ap (naming_from n) (split-line first.line rest first.part.within)
    ∙ ap (λ (l : LineNames). naming_by l n (naming_from (n + 1) (slice_split is_line_end rest)))
    (state_by _ _ (choice_in first.line) short (state-is_state world))

-- the line of a choice
line-named : (choice : Choice) (text rest : List ℕ) (n : ℕ) → IsOwnLine choice text
    → naming_from n (slice_split is_line_end (text ++ rest)) ≡ behind_choices (choice ∷ []) (naming_from (n + 1) (slice_split is_line_end rest))
line-named choice text rest n own = grind (arith, split-line)

-- an execution of one choice, by whether it was refused
one-refusal : (world : World) (choice : Choice) → (execution world (choice ∷ [])).refusal ≡ refusal_of world choice
one-refusal world choice = grind arith

-- what follows a choice's line, by whether it was refused
rest_by : (refusal : Option StepFault) (world : World) (choice : Choice) (choices : List Choice) (n : ℕ)
    → refusal_of world choice ≡ refusal → world.choices ≤ 1000000000000
    → ((after : World) → after.choices ≤ 1000000000000
    → naming_from n (slice_split is_line_end (trace_of after choices)) ≡ whole (shown after choices))
    → naming_from n (slice_split is_line_end (left_by (is_none refusal) (execution world (choice ∷ [])).world choices))
    ≡ whole (behind refusal world choice (λ after. shown after choices))
rest_by refusal world choice choices n is few rest = grind (arith, counted, one-refusal, after_by, states-named)

trace-named : (choices : List Choice) (world : World) (n : ℕ) → world.choices ≤ 1000000000000 → All IsNamed choices
    → naming_from n (slice_split is_line_end (trace_of world choices)) ≡ whole (shown world choices)
trace-named [] world n few there = states-named world n
trace-named (choice ∷ choices) world n few there =
    let refusal = refusal_of world choice in
    let rest = left_by (is_none refusal) (execution world (choice ∷ [])).world choices in
    ap (λ text. naming_from n (slice_split is_line_end text)) (sym (after_choice world choice choices refusal (one-refusal world choice)))
    ∙ line-named choice (lines_of world (choice ∷ [])) rest n (own-line world choice few (All-head IsNamed choice choices there))
    ∙ ap (behind_choices (choice ∷ [])) (rest_by refusal world choice choices (n + 1) refl few
    (λ after more. trace-named choices after (n + 1) more (All-tail IsNamed choice choices there)))

pub trace-choices : (choices : List Choice) (world : World) → world.choices ≤ 1000000000000 → All IsNamed choices
    → choices_named (trace_of world choices) ≡ Ok (shown world choices)
trace-choices choices world few there = grind (arith, trace-named)

-- where none is refused
all_by : (refusal : Option StepFault) (world : World) (choice : Choice) (choices : List Choice)
    → ((after : World) → (execution after choices).refusal ≡ None → shown after choices ≡ choices)
    → (execution_by refusal world choice (λ after. execution after choices)).refusal ≡ None
    → behind refusal world choice (λ after. shown after choices) ≡ choices
all_by refusal world choice choices rest none = grind arith

pub all-shown : (choices : List Choice) (world : World) → (execution world choices).refusal ≡ None → shown world choices ≡ choices
all-shown [] world none = refl
all-shown (choice ∷ choices) world none =
    ap (λ cs. choice ∷ cs) (all_by (refusal_of world choice) world choice choices (λ after. all-shown choices after) none)

-- their trace is the same
same_by : (refusal : Option StepFault) (world : World) (choice : Choice) (choices : List Choice)
    → ((after : World) → (lines_of after (shown after choices) ≡ lines_of after choices)
    × ((execution after (shown after choices)).world ≡ (execution after choices).world))
    → (lines_by refusal world choice (λ after. lines_of after (behind refusal world choice (λ w. shown w choices)))
    ≡ lines_by refusal world choice (λ after. lines_of after choices))
    × ((execution_by refusal world choice (λ after. execution after (behind refusal world choice (λ w. shown w choices)))).world
    ≡ (execution_by refusal world choice (λ after. execution after choices)).world)
same_by refusal world choice choices rest = grind arith

pub same-shown : (choices : List Choice) (world : World)
    → (lines_of world (shown world choices) ≡ lines_of world choices)
    × ((execution world (shown world choices)).world ≡ (execution world choices).world)
same-shown [] world = (refl, refl)
same-shown (choice ∷ choices) world =
    same_by (refusal_of world choice) world choice choices (λ after. same-shown choices after)

pub same-trace : (world : World) (choices : List Choice) → trace_of world (shown world choices) ≡ trace_of world choices
same-trace world choices = grind (arith, same-shown)
