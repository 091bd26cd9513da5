-- The number with which each fault of a schedule is reported.
use Rattle.std.specs.Prelude.{ℕ, Option, Some, None}
use Rattle.schedule_reader.specs.declared.fault.ScheduleFault.{ScheduleFault}
use Rattle.schedule_reader.specs.declared.fault.ScheduleFault.TheVariants as fault

-- the number of a fault of a schedule; missing memory is none of the schedule
abbrev pub schedule_number : ScheduleFault → Option ℕ
schedule_number (fault.Byte place) = Some 1
schedule_number (fault.Number place) = Some 2
schedule_number (fault.Repeat place) = Some 3
schedule_number fault.Memory = None
