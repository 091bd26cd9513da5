use Rattle.std.proofs.{Common.refl, Common.arith, lemmas.Fmt.length-decimal-le}
use Rattle.trace_text.proofs.LineEnds.{carried}
use Rattle.trace_text.proofs.digits.Digits.move_far.Goals as goal

pub invariant_of-self : goal.invariant_of-self
invariant_of-self c =
    let inside = c.self.inside in (
      c.self.invariant.0,
      carried inside.block inside.count inside.number c.args.number _ c.self.told c.self.invariant.0 c.self.invariant.1
          c.if-last-eq57.true refl c.if-ten-lt57.true c.if-number-self.true c.if-number-gt10.true c.ranges.number.fits,
      c.requires,
    )

pub write_digits-start-requires : goal.write_digits-start-requires
write_digits-start-requires c = (
  length-decimal-le 20 c.args.number (omega arith) (omega (arith, c.ranges.number.fits)) c.ranges.number.fits,
  omega (arith, c.self.told),
)
