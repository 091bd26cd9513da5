use Rattle.std.proofs.Common.{rules, Some}
use Rattle.vuthgal_c.proofs.choices.vuthgal_choices.Goals as goal

-- what came to the two sinks
pub returns : goal.returns
returns c = (c.settled-status.result, (c.choices-answer.new.output.written, (c.settled-status.new.line.written, ((c.choices-answer.result, (Some c.choices-answer.new.trace, (search rules, search rules))), c.hand.ensures))))
