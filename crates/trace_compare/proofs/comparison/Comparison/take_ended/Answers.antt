use Rattle.std.proofs.Common.{◌≡◌, arith, length, subst}
use Rattle.byte_ports.specs.SourceLines.{HasCome}
use Rattle.trace_compare.proofs.Verdicts.{judged-last, judged-whole, too_long}
use Rattle.trace_compare.proofs.comparison.Comparison.take_ended.Goals as goal

pub returns-in-Whole-clause-judged : goal.returns-in-Whole-clause-judged
returns-in-Whole-clause-judged c =
    rw c.in-Whole.is
    (judged-whole c.take_line.result c.args.self.now c.take_line.new.self c.args.line.now c.requires.one c.take_line.ensures.verdict
    c.take_line.ensures.meets c.take_line.ensures.counted)

pub returns-in-Ok-clause-judged : goal.returns-in-Ok-clause-judged
returns-in-Ok-clause-judged c =
    rw c.in-AtEnd.is
    (judged-last c.args.self.now c.end.new.self c.args.line.now c.in-Ok.verdict c.requires.one c.in-Ok.ensures.told c.in-Ok.ensures.stands)

pub returns-in-TooLong-clause-judged : goal.returns-in-TooLong-clause-judged
returns-in-TooLong-clause-judged c =
    let many : length c.args.line.now ≡ 65537 =
    subst (λ ended. HasCome ended c.args.line.now c.requires.came.0) c.in-TooLong.is c.requires.came.1 in
    rw c.in-TooLong.is (too_long c.args.self.now c.args.self.now c.args.line.now c.requires.one c.requires.short (omega (arith, many)))
