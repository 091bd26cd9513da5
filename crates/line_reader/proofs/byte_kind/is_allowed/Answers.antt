use Rattle.std.proofs.Common.{arith, nat_lt, refl, slice_index_or}
use Rattle.std.proofs.lemmas.Bool.{agree_below_at}
use Rattle.line_reader.specs.{Words.is_allowed, declared.byte_kind.TheConstants.KINDS}
use Rattle.line_reader.proofs.byte_kind.is_allowed.Goals as goal

pub returns : goal.returns
returns c =
    let fits = c.ranges.byte.fits in
    rw c.from.ensures
    (agree_below_at (λ b. nat_lt 0 (slice_index_or KINDS b 0)) is_allowed 256 c.args.byte refl (omega (arith, fits)))
