use Rattle.commands.proofs.Blanks.{same-schedule}
use Rattle.commands.proofs.law.a_line_of_a_schedule_is_the_schedule.Goals as goal

pub returns : goal.returns
returns c = same-schedule
