use Rattle.std.proofs.Common.{arith, nat_lt, refl, slice_index_or}
use Rattle.std.proofs.lemmas.Bool.{agree_below_at}
use Rattle.line_reader.specs.{Names.goes_on_name, declared.byte_kind.TheConstants.KINDS}
use Rattle.line_reader.proofs.byte_kind.goes_on_name.Goals as goal

pub returns : goal.returns
returns c =
    let fits = c.ranges.byte.fits in
    rw c.from.ensures
    (agree_below_at (λ b. nat_lt 2 (slice_index_or KINDS b 0)) goes_on_name 256 c.args.byte refl (omega (arith, fits)))
