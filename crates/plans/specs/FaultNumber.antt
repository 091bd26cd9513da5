-- The number with which each fault of a plan is reported.
use Rattle.std.specs.Prelude.{ℕ, Option, Some, None}
use Rattle.plans.specs.declared.fault.PlanFaultKind.{PlanFaultKind}
use Rattle.plans.specs.declared.fault.PlanFaultKind.TheVariants as fault

abbrev pub plan_number : PlanFaultKind → Option ℕ
plan_number fault.BadWord = Some 1
plan_number fault.BadCount = Some 2
plan_number fault.BadSeed = Some 3
plan_number fault.NotNamed = Some 4
plan_number fault.NoThread = Some 5
plan_number fault.TooDeep = Some 6
plan_number fault.NotOpened = Some 7
plan_number fault.NotClosed = Some 8
plan_number fault.Memory = None
