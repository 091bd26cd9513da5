-- The result of a command whose run is to end as expected.
use Rattle.std.specs.Prelude.{ℕ, Bool, true, false, List}
use Rattle.std.specs.{Global.Vec, List.list_all}
use Rattle.trace_text.specs.{Expectation.is_end_expected, declared.run_end.RunEnd.RunEnd}
use Rattle.workbench.specs.declared.done.Done.{Done}
use Rattle.workbench.specs.declared.done.Done.TheVariants as done

-- whether a run ended as all of these texts expect
abbrev pub are_as_expected : List (Vec ℕ) → RunEnd → Bool
are_as_expected expected end = list_all (λ (text : Vec ℕ). is_end_expected end text.items) expected

-- the result of a command whose run ended so
abbrev pub done_by : Bool → Done
done_by true = done.AsAsked
done_by false = done.Unlike
