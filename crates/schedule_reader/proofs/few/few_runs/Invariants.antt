use Rattle.std.proofs.Common.{true, drop}
use Rattle.schedule_reader.specs.{Places.IsPlace, Places.schedule_from, Schedule.finished_schedule}
use Rattle.schedule_reader.proofs.Fews.{HasSeen}
use Rattle.schedule_reader.proofs.few.few_runs.Given as goal

-- what was read, and what is left to read
abbrev pub invariant-loop-at : goal.invariant-loop-at
invariant-loop-at l = record {
  place : IsPlace l.at l.place;
  seen : HasSeen l.few (finished_schedule l.schedule) (schedule_from true l.place l.at (drop l.at l.schedule));
}
