use Rattle.std.proofs.Common.{rules}
use Rattle.vuthgal_c.proofs.planning.vuthgal_plan.Goals as goal

-- what came to the two sinks
pub returns : goal.returns
returns c = (c.settled-status.result, (c.planned-answer.new.output.written, (c.settled-status.new.line.written, ((c.planned-answer.result, (search rules, search rules, search rules)), c.hand.ensures))))
