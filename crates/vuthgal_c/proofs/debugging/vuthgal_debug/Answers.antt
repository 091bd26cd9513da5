use Rattle.std.proofs.Common.{rules, Some}
use Rattle.vuthgal_c.proofs.debugging.vuthgal_debug.Goals as goal

-- what came to the two sinks
pub returns : goal.returns
returns c = (c.debug_cmd-status.result, (c.debug_cmd-status.new.output.written, (c.debug_cmd-status.new.errors.written, (((c.debug_cmd-status.ensures.outcome).0, (Some c.debug_cmd-status.new.file, (Some c.debug_cmd-status.new.commands, (search rules, search rules)))), c.hand.ensures))))
