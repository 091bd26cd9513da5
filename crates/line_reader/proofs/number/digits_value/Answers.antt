use Rattle.std.proofs.{Common.arith, lemmas.Str.Parse.digits_value-take-le}
use Rattle.line_reader.proofs.Digits.{digits_value-few, digits_value-next, digits_value-next_few}
use Rattle.line_reader.proofs.number.digits_value.Goals as goal

pub overflow_mul-value : goal.overflow_mul-value
overflow_mul-value c =
    let few = digits_value-next_few c.args.digits.now c.loop-digit.digit-index 0 c.requires.digits c.requires.few c.loop-digit-test.true in
    omega (arith, few, c.loop-digit.invariant)

pub overflow_add-value : goal.overflow_add-value
overflow_add-value c =
    let few = digits_value-next_few c.args.digits.now c.loop-digit.digit-index 0 c.requires.digits c.requires.few c.loop-digit-test.true in
    omega (arith, few, c.loop-digit.invariant, c.from.ensures)

pub loop-digit-preserved : goal.loop-digit-preserved
loop-digit-preserved c =
    let next = digits_value-next c.args.digits.now c.loop-digit.digit-index 0 c.requires.digits c.loop-digit-test.true in
    omega (arith, next, c.loop-digit.invariant, c.from.ensures)

pub returns-clause-small : goal.returns-clause-small
returns-clause-small c =
    let less = digits_value-take-le 10 c.args.digits.now c.loop-digit.digit-index (omega arith) in
    let whole = digits_value-few c.args.digits.now c.requires.digits c.requires.few in
    omega (arith, less, whole, c.loop-digit.invariant)
