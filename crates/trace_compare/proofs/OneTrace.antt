-- An image's program shows the same under the same choices, however its phasers are stored. So a trace that was written is found
-- the same.
use Rattle.std.proofs.Common.{◌≡◌, ◌∙◌, ℕ, List, [], ◌∷◌, All, Option, None, refl, ap, append-nil, arith, sym}
use Rattle.row_code.specs.declared.image.Image.{Image}
use Rattle.tier_tree.specs.Stored.{Stored}
use Rattle.schedule_reader.specs.{declared.run.Run.Run, Schedule.IsRun, Schedule.choices_of}
use Rattle.thread_machine.specs.{declared.choice.Choice.Choice, declared.fault.StepFault.StepFault, Step.refusal_of}
use Rattle.thread_machine.specs.World.{World, IsFirstOf, first_of}
use Rattle.thread_machine.specs.Execution.{Execution, execution, execution_by}
use Rattle.trace_text.specs.{Outcome.EndsFrom, RunText.AreTraced, Start.Begins, Trace.lines_by, Trace.lines_of, Trace.trace_of}
use Rattle.trace_text.specs.declared.run_end.RunEnd.{RunEnd}
use Rattle.trace_compare.specs.declared.comparison.Verdict.TheVariants as verdict
use Rattle.trace_compare.specs.Compare.{HasWrittenTheSame, IsFoundTheSame, verdict_of}
use Rattle.trace_compare.proofs.{NamedThreads.named-runs, NamedThreads.named-threads, OwnTrace.IsNamed, OwnTrace.own-trace}
use Rattle.trace_compare.proofs.OneVerdict.{as-stored, plays-same, played-world, refusal-same, state-same, stored}

-- the lines, and the world that is left
lines-by : (phasers : List Stored) (refusal : Option StepFault) (world : World) (choice : Choice) (rest : World → List ℕ)
    → ((after : World) → rest (stored phasers after) ≡ rest after)
    → lines_by refusal (stored phasers world) choice rest ≡ lines_by refusal world choice rest
lines-by phasers refusal world choice rest same = grind (arith, plays-same, played-world)

lines-same : (choices : List Choice) (phasers : List Stored) (world : World)
    → lines_of (stored phasers world) choices ≡ lines_of world choices
lines-same [] phasers world = refl
lines-same (choice ∷ choices) phasers world =
    ap (λ why. lines_by why (stored phasers world) choice (λ after. lines_of after choices)) (refusal-same phasers world choice)
    ∙ lines-by phasers (refusal_of world choice) world choice (λ after. lines_of after choices) (λ after. lines-same choices phasers after)

left-by : (phasers : List Stored) (refusal : Option StepFault) (world : World) (choice : Choice) (rest : World → Execution)
    → ((after : World) → (rest (stored phasers after)).world ≡ stored phasers (rest after).world)
    → (execution_by refusal (stored phasers world) choice rest).world ≡ stored phasers (execution_by refusal world choice rest).world
left-by phasers refusal world choice rest same = grind (arith, plays-same, played-world)

pub left-same : (choices : List Choice) (phasers : List Stored) (world : World)
    → (execution (stored phasers world) choices).world ≡ stored phasers (execution world choices).world
left-same [] phasers world = refl
left-same (choice ∷ choices) phasers world =
    ap (λ why. (execution_by why (stored phasers world) choice (λ after. execution after choices)).world) (refusal-same phasers world choice)
    ∙ left-by phasers (refusal_of world choice) world choice (λ after. execution after choices) (λ after. left-same choices phasers after)

-- the trace is that of the image's first world
pub trace-first : (image : Image) (limit : ℕ) (world : World) (choices : List Choice) → IsFirstOf image limit world
    → trace_of world choices ≡ trace_of (first_of image limit) choices
trace-first image limit world choices is = grind (arith, as-stored, lines-same, left-same, state-same)

-- the verdict on a trace, beside the program that it is of
begun-verdict : (image : Image) (world : World) (choices : List Choice) → Begins image world → All IsNamed choices
    → verdict_of world (trace_of world choices) ≡ verdict.Same
begun-verdict image world choices given named = grind (arith, own-trace)

-- and beside that program from another world in which it begins
other-verdict : (image : Image) (one other : World) (choices : List Choice) → Begins image one → Begins image other → All IsNamed choices
    → verdict_of other (trace_of one choices) ≡ verdict.Same
other-verdict image one other choices begins begins' named =
    ap (verdict_of other) (trace-first image 1000000000 one choices begins.1 ∙ sym (trace-first image 1000000000 other choices begins'.1))
    ∙ begun-verdict image other choices begins' named

-- so a comparison with that program finds it the same
found-same : (image : Image) (one : World) (choices : List Choice) → Begins image one → All IsNamed choices
    → IsFoundTheSame image (trace_of one choices)
found-same image one choices begins named left v given = grind (arith, append-nil, other-verdict)

-- that of runs that a token can spell
pub traced-same : (image : Image) (world : World) (runs : List Run) (end : RunEnd) (old new : Option (List ℕ))
    → Begins image world → All IsRun runs → AreTraced world (choices_of runs) end old new → HasWrittenTheSame image old new
traced-same image world runs end old new begins are (ends, appends) =
    (trace_of world (choices_of runs), (appends, found-same image world (choices_of runs) begins (named-runs runs are)))

-- and that which a run writes
pub ended-same : (image : Image) (world : World) (end : RunEnd) (schedule_before schedule_after old new : Option (List ℕ))
    → Begins image world → EndsFrom world end schedule_before schedule_after old new → HasWrittenTheSame image old new
ended-same image world end schedule_before schedule_after old new begins (bytes, (runs, (consumed, at_end, is, (ends, appends)))) =
    (trace_of world (choices_of runs), (appends, found-same image world (choices_of runs) begins (named-threads bytes runs None is)))
