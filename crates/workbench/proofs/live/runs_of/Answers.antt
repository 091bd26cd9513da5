use Rattle.std.proofs.Common.{◌∙◌, ap, sym}
use Rattle.schedule_reader.specs.Schedule.{Schedule, choices_of, finished_schedule}
use Rattle.workbench.proofs.live.runs_of.Goals as goal

pub returns-in-Ok-read_schedule-clause-choices : goal.returns-in-Ok-read_schedule-clause-choices
returns-in-Ok-read_schedule-clause-choices c = (
  c.in-Ok.run',
  (
    c.in-Ok.is,
    ap (λ text. choices_of (finished_schedule text).runs) (sym c.as_slice.ensures.value)
        ∙ ap (λ (s : Schedule). choices_of s.runs) c.in-Ok-read_schedule.ensures.runs,
  ),
)
