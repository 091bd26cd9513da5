use Rattle.std.proofs.Common.{◌∙◌, ap, false, min, slice_index_or}
use Rattle.schedule_reader.specs.declared.run.Run.{Run}
use Rattle.trace_text.proofs.Plays.{choices_of-drop}
use Rattle.debugger.proofs.PlayedRuns.{pushed_on}
use Rattle.debugger.proofs.played.Played.push_first.Goals as goal

pub loop-run-preserved : goal.loop-run-preserved
loop-run-preserved c =
    let none : Run = record { choice = record { thread = 0; expiry = false }; times = 0 } in
    let run = slice_index_or c.args.runs.now c.loop-run.run-index none in
    record {
      choices = pushed_on c.loop-run.self c.push.new.self run c.loop-run.left c.min-times.result _ _ _
          (c.min-times.ensures ∙ ap (λ n. min c.loop-run.left n) c.from.ensures)
          (choices_of-drop c.args.runs.now c.loop-run.run-index none c.loop-run-test.true)
          c.loop-run.invariant.choices c.in_ok-push.ensures.choices;
      runs = λ are mine.
          let is = are c.loop-run.run-index none c.loop-run-test.true in
          c.push.ensures.runs is.thread (c.loop-run.invariant.runs are mine);
    }
