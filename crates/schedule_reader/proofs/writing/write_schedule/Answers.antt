use Rattle.std.proofs.Common.{◌∙◌, ap}
use Rattle.schedule_reader.specs.Schedule.{finished_schedule}
use Rattle.schedule_reader.proofs.Tokens.{text-read}
use Rattle.schedule_reader.proofs.writing.write_schedule.Goals as goal

pub returns-clause-meaning : goal.returns-clause-meaning
returns-clause-meaning c = ap finished_schedule c.in_ok-text.ensures ∙ text-read c.args.runs.now c.requires
