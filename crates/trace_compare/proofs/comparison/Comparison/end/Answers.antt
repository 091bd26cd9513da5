use Rattle.std.proofs.Common.{◌≡◌, ◌∙◌, ◌+◌, [], Option, ap, arith, drop, length, subst, sym}
use Rattle.trace_compare.specs.declared.comparison.Verdict.{Verdict}
use Rattle.trace_compare.specs.Comparing.{HasCounted, MeetsText, decided, lines_left}
use Rattle.trace_compare.proofs.{RunLines.told-ended, RunLines.told-other, Verdicts.more_to_come}
use Rattle.trace_compare.proofs.comparison.Comparison.end.Goals as goal

pub returns-in-Ok-Some-clause-told : goal.returns-in-Ok-Some-clause-told
returns-in-Ok-Some-clause-told c =
    let self = c.args.self.now in
    let line = c.args.line.now in
    let last = c.take_line.new.self in
    told-other self last line [] c.in-Ok-Some.verdict
    (c.in-Ok-Some.ensures.verdict []
    (more_to_come self.is_state c.is_whole.result (length (drop self.at self.text.items)) (length line) c.is_whole.ensures c.if-is_whole.false)
    ∙ ap (λ (v : Option Verdict). decided v (lines_left last [])) c.in-Ok-Some.field-0-is)
    (subst (λ (v : Option Verdict). MeetsText self last line [] v) c.in-Ok-Some.field-0-is (c.in-Ok-Some.ensures.meets []))

pub returns-in-Ok-None-clause-told : goal.returns-in-Ok-None-clause-told
returns-in-Ok-None-clause-told c =
    let self = c.args.self.now in
    let line = c.args.line.now in
    let last = c.take_line.new.self in
    let next : last.number ≡ self.number + 1 =
    subst (λ (v : Option Verdict). HasCounted self.number last.number v) c.in-Ok-None.field-0-is c.in-Ok-None.ensures.counted in
    told-ended self last c.end_verdict.new.self line c.end_verdict.result next
    (c.in-Ok-None.ensures.verdict []
    (more_to_come self.is_state c.is_whole.result (length (drop self.at self.text.items)) (length line) c.is_whole.ensures c.if-is_whole.false)
    ∙ ap (λ (v : Option Verdict). decided v (lines_left last [])) c.in-Ok-None.field-0-is
    ∙ sym c.end_verdict.ensures.verdict)
    (subst (λ (v : Option Verdict). MeetsText self last line [] v) c.in-Ok-None.field-0-is (c.in-Ok-None.ensures.meets []))
    (c.end_verdict.ensures.kept (omega (arith, next)))
