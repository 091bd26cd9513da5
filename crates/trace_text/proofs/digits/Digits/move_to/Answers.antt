use Rattle.std.proofs.Common.{refl}
use Rattle.trace_text.proofs.LineEnds.{counted_up_alone}
use Rattle.trace_text.proofs.digits.Digits.move_to.Goals as goal

pub invariant_of-self : goal.invariant_of-self
invariant_of-self c =
    let inside = c.self.inside in (
      c.self.invariant.0,
      counted_up_alone inside.block inside.count inside.number c.args.number _ c.self.told c.self.invariant.0 c.self.invariant.1
          refl c.if-last-lt57.true c.if-number-self.true c.ranges.number.fits,
      c.requires,
    )
