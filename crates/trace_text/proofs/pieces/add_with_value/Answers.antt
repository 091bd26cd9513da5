use Rattle.std.proofs.{Common.arith, lemmas.Fmt.length_signed_le}
use Rattle.trace_text.proofs.pieces.add_with_value.Goals as goal

pub returns-in_err-extend_from_slice-clause-few : goal.returns-in_err-extend_from_slice-clause-few
returns-in_err-extend_from_slice-clause-few c =
    length_signed_le 10 c.args.value (omega (arith, c.ranges.value.sfits)) (omega (arith, c.ranges.value.sfits))
