use Rattle.std.proofs.Common.{rules, Some}
use Rattle.vuthgal_c.proofs.playing.vuthgal_run.Goals as goal

-- what came to the two sinks
pub returns : goal.returns
returns c = (c.run_cmd-status.result, (c.run_cmd-status.new.output.written, (c.run_cmd-status.new.errors.written, (((c.run_cmd-status.ensures).0, (Some c.run_cmd-status.new.file, (Some c.run_cmd-status.new.schedule, (search rules, search rules)))), c.hand.ensures))))
