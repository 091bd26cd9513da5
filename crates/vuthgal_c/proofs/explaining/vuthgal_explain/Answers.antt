use Rattle.std.proofs.Common.{rules}
use Rattle.vuthgal_c.proofs.explaining.vuthgal_explain.Goals as goal

-- what came to the two sinks
pub returns : goal.returns
returns c = (c.settled-status.result, (c.explained-answer.new.output.written, (c.settled-status.new.line.written, ((c.tables.result, (c.explained-answer.result, (search rules, search rules))), c.hand.ensures))))
