use Rattle.trace_compare.proofs.Verdicts.{judged-so, told-all}
use Rattle.trace_compare.proofs.judged.judge.Goals as goal

pub returns-in-Ok-compare_lines-clause-outcome : goal.returns-in-Ok-compare_lines-clause-outcome
returns-in-Ok-compare_lines-clause-outcome g c =
    judged-so c.args.image c.in-Ok-compare_lines.verdict c.compare_lines.new.now _ _
    (told-all c.args.image c.new-run.result c.compare_lines.new.now c.in-Ok.machine c.in-Ok-compare_lines.verdict _ _ c.in-Ok.ensures.machine
    c.new-run.ensures.machine c.new-run.ensures.start c.new-run.ensures.number c.in-Ok-compare_lines.ensures.verdict)
    c.in-Ok-compare_lines.ensures.far
