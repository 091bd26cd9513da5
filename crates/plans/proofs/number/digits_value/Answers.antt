use Rattle.std.proofs.{Common.arith, lemmas.Grind.common_steps}
use Rattle.line_reader.proofs.Digits.{digits_value-next}
use Rattle.plans.proofs.Digits.{digits_value-next_few}
use Rattle.plans.proofs.number.digits_value.Goals as goal

pub overflow_mul-value : goal.overflow_mul-value
overflow_mul-value c =
    let few = digits_value-next_few c.args.digits.now c.loop-digit.digit-index 0 c.requires.digits c.requires.few c.loop-digit-test.true in
    omega (arith, few, c.loop-digit.invariant)

pub overflow_add-value : goal.overflow_add-value
overflow_add-value c = grind (arith, common_steps, digits_value-next_few)

pub loop-digit-preserved : goal.loop-digit-preserved
loop-digit-preserved c = grind (arith, common_steps, digits_value-next)
