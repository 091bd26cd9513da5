-- The state of each thread's wait.
use Rattle.std.specs.Prelude.{ℕ, Bool, true, false, List, map, slice_index_or, Option, Some, None}
use Rattle.cyclic_barrier.specs.declared.answer.WaitState.{WaitState}
use Rattle.cyclic_barrier.specs.declared.answer.WaitState.TheVariants as state

-- the state of the thread's wait, if it has one
abbrev pub wait_at : List (Option WaitState) → ℕ → Option WaitState
wait_at waits thread = slice_index_or waits thread None

-- there is a wait, and this is its state
abbrev pub is_at : WaitState → Option WaitState → Bool
is_at state.Waiting (Some state.Waiting) = true
is_at state.Tripped (Some state.Tripped) = true
is_at state.Broken (Some state.Broken) = true
is_at _ _ = false

-- there is a wait, and it is unreleased
abbrev pub is_waiting : Option WaitState → Bool
is_waiting wait = is_at state.Waiting wait

-- a wait that isn't released gets this state; a released one keeps its state
abbrev pub released : WaitState → Option WaitState → Option WaitState
released outcome (Some state.Waiting) = Some outcome
released outcome wait = wait

-- all who wait are released
abbrev pub release : WaitState → List (Option WaitState) → List (Option WaitState)
release outcome waits = map (released outcome) waits
