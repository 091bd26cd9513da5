use Rattle.std.proofs.Common.{rules, Some}
use Rattle.vuthgal_c.proofs.playing.vuthgal_both.Goals as goal

-- what came to the two sinks
pub returns : goal.returns
returns c = (c.both_cmd-status.result, (c.both_cmd-status.new.output.written, (c.both_cmd-status.new.errors.written, (((c.both_cmd-status.ensures).0, (Some c.both_cmd-status.new.input, (search rules, search rules))), c.hand.ensures))))
