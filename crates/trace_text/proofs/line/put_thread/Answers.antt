use Rattle.std.proofs.Common.{◌∙◌, ◌++◌, ap, codes, if◌then◌else◌}
use Rattle.trace_text.proofs.LineEnds.{named_line}
use Rattle.trace_text.proofs.line.put_thread.Goals as goal

pub returns-then-choice-clause-text : goal.returns-then-choice-clause-text
returns-then-choice-clause-text c = λ step.
    named_line _ c.args.line.now (codes " x") c.args.choice step
    (c.put_word.ensures.text ∙ ap (λ l. codes " x" ++ l) c.put_spaced.ensures.text)
    (ap (λ is. if is then codes " x" else codes " t") c.if-choice.true)

pub returns-else-choice-clause-text : goal.returns-else-choice-clause-text
returns-else-choice-clause-text c = λ step.
    named_line _ c.args.line.now (codes " t") c.args.choice step
    (c.put_word-else-choice.ensures.text ∙ ap (λ l. codes " t" ++ l) c.put_spaced.ensures.text)
    (ap (λ is. if is then codes " x" else codes " t") c.if-choice.false)
