use Rattle.std.proofs.Common.{rules}
use Rattle.vuthgal_c.proofs.planning.vuthgal_seeds.Goals as goal

-- what came to the two sinks
pub returns : goal.returns
returns c = (
  c.settled_unplanned-status.result,
  (
    c.reported-answer.new.output.written,
    (
      c.settled_unplanned-status.new.line.written,
      ((c.asked-seeds.result, (c.reported-answer.result, (c.asked-seeds.ensures, search rules, search rules, search rules))), c.hand.ensures),
    ),
  ),
)
