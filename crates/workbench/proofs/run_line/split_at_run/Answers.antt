use Rattle.std.proofs.Common.{◌∙◌, ◌-◌, ◌++◌, List, ℕ, length, take, ap, sym, arith, append-nil, length-drop}
use Rattle.workbench.specs.RunLine.{is_run_line, schedule_part}
use Rattle.workbench.proofs.RunLine.{schedule_part-run, schedule_part-next, program_part-run, next_rest, next_text}
use Rattle.workbench.proofs.run_line.split_at_run.Goals as goal

pub returns-then-is_run_line-clause-text : goal.returns-then-is_run_line-clause-text
returns-then-is_run_line-clause-text c =
    let is_run = ap is_run_line (sym c.first_line.ensures.line) ∙ sym c.is_run_line.ensures ∙ c.if-is_run_line.true in
    let before : List ℕ = take (length c.args.bytes.now - length c.loop-rest.rest.now) c.args.bytes.now in
    sym (c.loop-rest.invariant.text ∙ ap (λ xs. before ++ xs) (program_part-run c.loop-rest.rest.now is_run) ∙ append-nil before)

pub returns-then-is_run_line-clause-schedule : goal.returns-then-is_run_line-clause-schedule
returns-then-is_run_line-clause-schedule c =
    let is_run = ap is_run_line (sym c.first_line.ensures.line) ∙ sym c.is_run_line.ensures ∙ c.if-is_run_line.true in
    c.first_line.ensures.after ∙ sym (schedule_part-run c.loop-rest.rest.now is_run) ∙ sym c.loop-rest.invariant.schedule

pub loop-rest-preserved : goal.loop-rest-preserved
loop-rest-preserved c =
    let no_run = ap is_run_line (sym c.first_line.ensures.line) ∙ sym c.is_run_line.ensures ∙ c.if-is_run_line.false in
    let before = c.loop-rest.invariant in
    let bytes = c.args.bytes.now in
    let rest = c.loop-rest.rest.now in
    let after = c.first_line.result.1.now in
    let shorter = ap length c.first_line.ensures.after ∙ length-drop _ rest in
    record {
      within = omega (arith, shorter, before.within);
      rest = next_rest bytes rest after before.within before.rest c.first_line.ensures.after;
      text = next_text bytes rest after before.within before.rest c.first_line.ensures.after no_run before.text;
      schedule = before.schedule ∙ schedule_part-next rest no_run ∙ ap schedule_part (sym c.first_line.ensures.after);
    }
