use Rattle.std.proofs.Common.{rules, Some}
use Rattle.vuthgal_c.proofs.traces.vuthgal_compare.Goals as goal

-- what came to the two sinks
pub returns : goal.returns
returns c = (c.compare_cmd-status.result, (c.compare_cmd-status.new.output.written, (c.compare_cmd-status.new.errors.written, (((c.compare_cmd-status.ensures).0, (Some c.compare_cmd-status.new.file, (Some c.compare_cmd-status.new.trace, (search rules, search rules)))), c.hand.ensures))))
