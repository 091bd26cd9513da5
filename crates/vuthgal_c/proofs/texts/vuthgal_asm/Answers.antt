use Rattle.std.proofs.Common.{rules, Some}
use Rattle.vuthgal_c.proofs.texts.vuthgal_asm.Goals as goal

-- what came to the two sinks
pub returns : goal.returns
returns c = (c.asm_cmd-status.result, (c.asm_cmd-status.new.output.written, (c.asm_cmd-status.new.errors.written, (((c.asm_cmd-status.ensures).0, (Some c.asm_cmd-status.new.input, (search rules, search rules))), c.hand.ensures))))
