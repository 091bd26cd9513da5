use Rattle.std.proofs.Common.{rules, Some}
use Rattle.vuthgal_c.proofs.texts.vuthgal_list.Goals as goal

-- what came to the two sinks
pub returns : goal.returns
returns c = (c.list_cmd-status.result, (c.list_cmd-status.new.output.written, (c.list_cmd-status.new.errors.written, (((c.list_cmd-status.ensures).0, (Some c.list_cmd-status.new.file, (search rules, search rules))), c.hand.ensures))))
