use Rattle.std.proofs.{Common.sym, Common.arith, lemmas.Fmt.decimal_digit}
use Rattle.trace_text.proofs.digits.Digits.new.Goals as goal

pub invariant_of-result : goal.invariant_of-result
invariant_of-result c = (omega arith, sym (decimal_digit 0 (omega arith)), omega arith)
