use Rattle.std.proofs.Common.{◌∙◌, ◌++◌, length, ap, arith, length-append}
use Rattle.std.proofs.lemmas.Fmt.{length-decimal-le}
use Rattle.std.specs.Fmt.{decimal}
use Rattle.trace_text.proofs.LineEnds.{room_for_count}
use Rattle.trace_text.proofs.line_end.LineEnd.put_count.Goals as goal

pub write_digits-self-inside-requires : goal.write_digits-self-inside-requires
write_digits-self-inside-requires c = (
  room_for_count c.self.inside.bytes c.args.self.now c.self.inside.start c.args.count c.self.told c.self.invariant
      c.self.view_is c.requires c.ranges.count.fits,
  omega (arith, c.self.told, c.self.invariant),
)

pub returns-clause-length : goal.returns-clause-length
returns-clause-length c =
    let w = c.write_digits-self-inside.ensures in
    let is = ap length (w.written ∙ ap (λ line. decimal c.args.count ++ line) c.self.view_is) in
    omega (
      arith,
      is,
      length-append (decimal c.args.count) c.args.self.now,
      length-decimal-le 20 c.args.count (omega arith) (omega (arith, c.ranges.count.fits)) c.ranges.count.fits,
    )
