-- How it is reported that a plan has no schedule.
use Rattle.std.specs.Prelude.{ℕ, List, ◌++◌, Option, Some, None, codes}
use Rattle.std.specs.Fmt.{decimal}
use Rattle.plans.specs.FaultNumber.{plan_number}
use Rattle.workbench.specs.Fault.{line_of, refusal_status, status_of}
use Rattle.commands.specs.declared.unplanned.Unplanned.{Unplanned}
use Rattle.commands.specs.declared.unplanned.Unplanned.TheVariants as why

-- the exit status
abbrev pub unplanned_status : Unplanned → ℕ
unplanned_status (why.Plan f) = refusal_status (plan_number f.kind)
unplanned_status (why.Fault f) = status_of f

-- the line for a plan's fault in this line of the plan; out of memory has its own
abbrev pub plan_line : ℕ → Option ℕ → List ℕ
plan_line line (Some number) =
    codes "refused plan " ++ (decimal line ++ (codes " " ++ (decimal number ++ codes "\n")))
plan_line line None = codes "memory\n"

-- the line on standard error
abbrev pub unplanned_line : Unplanned → List ℕ
unplanned_line (why.Plan f) = plan_line f.line (plan_number f.kind)
unplanned_line (why.Fault f) = line_of f
