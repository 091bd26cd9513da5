use Rattle.std.proofs.Common.{◌∙◌, refl, sym, true}
use Rattle.trace_compare.proofs.{RunLines.meets-from, RunLines.text-state, Verdicts.line-choice}
use Rattle.trace_compare.proofs.comparison.Comparison.take_line.Goals as goal

pub returns-then-not-is_state_line-clause-verdict : goal.returns-then-not-is_state_line-clause-verdict
returns-then-not-is_state_line-clause-verdict c = λ lines more.
    let t = c.take_choice.ensures in
    line-choice c.take_choice.result c.args.self.now c.take_choice.new.self c.args.line.now lines c.if-self.false t.stage
    (sym c.is_state_line.ensures ∙ c.if-not-is_state_line.true) (t.verdict lines)

pub returns-then-self-clause-meets : goal.returns-then-self-clause-meets
returns-then-self-clause-meets c = λ lines. c.take_state_line.ensures.meets lines c.if-self.true

pub returns-then-not-is_state_line-clause-meets : goal.returns-then-not-is_state_line-clause-meets
returns-then-not-is_state_line-clause-meets c = λ lines.
    c.take_choice.ensures.meets lines c.if-self.false (sym c.is_state_line.ensures ∙ c.if-not-is_state_line.true)

pub returns-clause-meets : goal.returns-clause-meets
returns-clause-meets c = λ lines.
    let self = c.args.self.now in
    meets-from self (record self { text = c.in-Ok.text; at = 0; is_state = true }) c.take_state_line-2.new.self c.args.line.now lines
    c.take_state_line-2.result refl
    (text-state self c.args.line.now lines c.if-self.false (sym c.is_state_line.ensures ∙ c.if-not-is_state_line.false)
    ∙ sym c.in-Ok.ensures.text)
    (c.take_state_line-2.ensures.meets lines refl)
