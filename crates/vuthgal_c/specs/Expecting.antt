-- What the call that checks an expectation promises.
use Rattle.std.specs.Prelude.{ℕ, List, if◌then◌else◌}
use Rattle.trace_text.specs.Expectation.{is_expectation, is_met}

-- whether a state is as a text expects, by its status; `run --expect` says so, too, of a run without a refused choice
abbrev pub expectation_status : (state text : List ℕ) → ℕ
expectation_status state text = if is_expectation text then (if is_met state text then 0 else 1) else 3
