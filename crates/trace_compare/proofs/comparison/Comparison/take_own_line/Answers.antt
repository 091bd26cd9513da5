use Rattle.std.proofs.Common.{◌∙◌, ◌+◌, ◌<◌, ◌≤◌, ◌^◌, Ok, ap, arith, decimal, length, length-append, refl, subst}
use Rattle.std.proofs.lemmas.Fmt.{length-decimal-le}
use Rattle.trace_compare.proofs.OwnLines.{own-by}
use Rattle.trace_compare.proofs.comparison.Comparison.take_own_line.Goals as goal

pub choice_behind-requires : goal.choice_behind-requires
choice_behind-requires c =
    let step = c.choices.result + 1 in
    let few : step < 10 ^ 13 = omega (arith, c.choices.ensures.within) in
    omega (
      arith,
      c.requires.room,
      ap length (c.as_slice.ensures ∙ ap decimal c.move_to.ensures),
      length-decimal-le 13 step (omega arith) few (omega (arith, few)),
    )

pub returns-in-Ok-true-clause-over : goal.returns-in-Ok-true-clause-over
returns-in-Ok-true-clause-over c =
    let machine = c.args.self.now.machine in
    let few : machine.choices ≤ 1000000000000 = subst (λ n. n ≤ 1000000000000) c.choices.ensures.choices c.choices.ensures.within in
    let accepted = ap Ok c.in-Ok-true.field-0-test in
    let next = c.move_to.ensures ∙ ap (λ n. n + 1) c.choices.ensures.choices in
    let behind = c.in-Ok-true.ensures.few accepted in
    own-by c.args.self.now _ c.meet.new.self c.in-Some.choice c.as_slice.result.now c.args.bytes.now c.meet.result
    c.requires.reading few next c.as_slice.ensures c.requires.room c.in-Some.ensures (c.in-Ok-true.ensures.played accepted)
    c.requires.reading refl refl refl c.meet.ensures.met c.meet.ensures.missed
    (omega (
      arith,
      behind,
      length-append (decimal c.move_to.new.self) c.own_line_of_choice.new.line,
      ap (λ n. length (decimal n)) next,
      length-decimal-le 13 (machine.choices + 1) (omega arith) (omega (arith, few)) (omega (arith, few)),
    ))
