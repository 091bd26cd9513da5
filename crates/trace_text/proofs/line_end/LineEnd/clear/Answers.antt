use Rattle.std.proofs.{lemmas.List.drop_all, Common.arith}
use Rattle.trace_text.proofs.line_end.LineEnd.clear.Goals as goal

pub returns : goal.returns
returns c = drop_all 192 c.self.inside.bytes (omega arith)
