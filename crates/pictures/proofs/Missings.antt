-- The refusal that ended a run tells the choice of a thread that isn't there.
use Rattle.std.proofs.Common.{◌≡◌, ◌∙◌, ◌+◌, true, false, List, [], ◌∷◌, ◌++◌, length, Option, Some, None, refl, ap, sym, append_assoc, arith, length-append, nat_lt, option_map, slice_get}
use Rattle.thread_machine.specs.{declared.choice.Choice.Choice, declared.fault.StepFault.StepFault, World.World}
use Rattle.thread_machine.specs.{Execution.execution, Execution.execution_by, Step.played, Step.refusal_of}
use Rattle.thread_machine.specs.declared.fault.StepFault.TheVariants as fault
use Rattle.trace_text.specs.{RunText.refusal_in, Trace.refused_by, Trace.refused_of}
use Rattle.pictures.specs.Missing.{missing_by, missing_of}

one_more : (world : World) (choice : Choice) → (played world choice).world.choices ≡ world.choices + 1
one_more world choice = grind arith

-- whether a refused choice's thread is there
is_none_there : (world : World) (choice : Choice) → refusal_of world choice ≡ Some fault.NoSuchThread
    → nat_lt choice.thread (length world.scene.threads) ≡ false
is_none_there world choice is = grind arith

is_there : (world : World) (choice : Choice) → refusal_of world choice ≡ Some fault.StepLimit
    → nat_lt choice.thread (length world.scene.threads) ≡ true
is_there world choice is = grind arith

never_memory : (world : World) (choice : Choice) → refusal_of world choice ≡ Some fault.Memory → ⊥
never_memory world choice is = grind arith

-- what follows the choices that were played
behind : {A : Type 0} (before : List A) (x : A) (xs : List A) → slice_get (before ++ (x ∷ xs)) (length before) ≡ Some x
behind [] x xs = refl
behind (_ ∷ before) x xs = behind before x xs

none_behind : {A : Type 0} (before : List A) → slice_get (before ++ []) (length before) ≡ None
none_behind [] = refl
none_behind (_ ∷ before) = none_behind before

told-by : (refusal : Option StepFault) (world : World) (before : List Choice) (choice : Choice) (choices : List Choice)
    → refusal ≡ refusal_of world choice → slice_get (before ++ (choice ∷ choices)) world.choices ≡ Some choice
    → (let after = (played world choice).world in let last = (execution after choices).world in
    missing_of (option_map (refusal_in last) (refused_of after choices))
    ≡ missing_by last (slice_get (before ++ (choice ∷ choices)) last.choices))
    → (let last = (execution_by refusal world choice (λ after. execution after choices)).world in
    missing_of (option_map (refusal_in last) (refused_by refusal world choice (λ after. refused_of after choices)))
    ≡ missing_by last (slice_get (before ++ (choice ∷ choices)) last.choices))
told-by (Some fault.NoSuchThread) world before choice choices is next rest = grind (arith, is_none_there)
told-by (Some fault.StepLimit) world before choice choices is next rest = grind (arith, is_there)
told-by (Some fault.Memory) world before choice choices is next rest = absurd (never_memory world choice (sym is))
told-by None world before choice choices is next rest = rest

-- of a run that goes on behind these choices
pub told-missing : (choices : List Choice) (world : World) (before : List Choice) → length before ≡ world.choices
    → (let last = (execution world choices).world in missing_of (option_map (refusal_in last) (refused_of world choices))
    ≡ missing_by last (slice_get (before ++ choices) last.choices))
told-missing [] world before are = sym (ap (missing_by world) (ap (slice_get (before ++ [])) (sym are) ∙ none_behind before))
told-missing (choice ∷ choices) world before are =
    let after = (played world choice).world in
    let last = (execution after choices).world in
    let counted : length (before ++ (choice ∷ [])) ≡ after.choices =
    length-append before (choice ∷ []) ∙ ap (λ n. n + 1) are ∙ sym (one_more world choice) in
    told-by (refusal_of world choice) world before choice choices refl
    (ap (slice_get (before ++ (choice ∷ choices))) (sym are) ∙ behind before choice choices)
    (told-missing choices after (before ++ (choice ∷ [])) counted
    ∙ ap (λ all. missing_by last (slice_get all last.choices)) (append_assoc before (choice ∷ []) choices))
