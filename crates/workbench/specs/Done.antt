-- The exit status of a command, and what it writes to the port for errors.
use Rattle.std.specs.Prelude.{◌≡◌, ℕ, Bool, List, Option, Result, Ok, Err}
use Rattle.workbench.specs.{declared.fault.Fault.Fault, declared.done.Done.Done, Fault.HasReported, Fault.status_of}
use Rattle.workbench.specs.declared.done.Done.TheVariants as done

-- the exit status without a fault
abbrev pub done_status : Done → ℕ
done_status done.AsAsked = 0
done_status done.Unlike = 1

-- the exit status of a command, and what was reported: nothing, or the line of its fault
abbrev pub IsSettled : Result Done Fault → (status : ℕ) (errors_failed : Bool) (errors_before errors_after : Option (List ℕ)) → Type 0
IsSettled (Ok d) status has_failed errors_before errors_after =
    (status ≡ done_status d) × (errors_after ≡ errors_before)
IsSettled (Err f) status has_failed errors_before errors_after =
    (status ≡ status_of f) × HasReported f has_failed errors_before errors_after

-- the same for a command's own result; `done_by` says how its Ok is done
abbrev pub IsSettledBy : {A : Type 0} → (done_by : A → Done) → Result A Fault → (status : ℕ) (errors_failed : Bool)
    (errors_before errors_after : Option (List ℕ)) → Type 0
IsSettledBy done_by (Ok x) status has_failed errors_before errors_after =
    IsSettled (Ok (done_by x)) status has_failed errors_before errors_after
IsSettledBy done_by (Err f) status has_failed errors_before errors_after =
    IsSettled (Err f) status has_failed errors_before errors_after

-- whatever the Ok has, everything is as the caller asked
abbrev pub as_asked : {A : Type 0} → A → Done
as_asked x = done.AsAsked
