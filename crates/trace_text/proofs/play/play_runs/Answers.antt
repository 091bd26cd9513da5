use Rattle.trace_text.proofs.Plays.{Continues-next, Continues-part, Continues-refused, Continues-end, choices_of-drop, choices_of-drop_all}
use Rattle.trace_text.proofs.play.play_runs.Goals as goal

pub returns-in-Ok-Some-clause-plays : goal.returns-in-Ok-Some-clause-plays
returns-in-Ok-Some-clause-plays g c =
    Continues-refused _ _ _ _ _ _ _ c.in-Ok-Some.field-0 c.in-Ok-Some.refused _ _ _ (choices_of-drop c.args.runs.now c.loop-run.run-index _ c.loop-run-test.true)
    c.loop-run.invariant c.in-Ok-Some.ensures.plays c.in-Ok-Some.field-0-is

pub loop-run-preserved : goal.loop-run-preserved
loop-run-preserved g c =
    Continues-next _ _ _ _ _ _ _ c.in-Ok-None.field-0 _ _ _ (choices_of-drop c.args.runs.now c.loop-run.run-index _ c.loop-run-test.true)
    c.loop-run.invariant c.in-Ok-None.ensures.plays c.in-Ok-None.field-0-is

pub returns-clause-plays : goal.returns-clause-plays
returns-clause-plays g c =
    Continues-end _ _ _ _ _ _ (choices_of-drop_all c.args.runs.now c.loop-run.run-index c.loop-run-test.false)
    c.loop-run.invariant

pub returns-in-Err-clause-memory : goal.returns-in-Err-clause-memory
returns-in-Err-clause-memory g c = λ is.
    Continues-part _ _ _ _ _ _ _ _ _ (choices_of-drop c.args.runs.now c.loop-run.run-index _ c.loop-run-test.true)
    c.loop-run.invariant (c.in-Err.ensures.memory is)
