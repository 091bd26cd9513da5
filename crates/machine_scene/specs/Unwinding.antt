-- The turns of a thread that throws.
use Rattle.std.specs.Prelude.{ℕ, ℤ, false, Option, Some}
use Rattle.cyclic_barrier.specs.Barrier.{end_action}
use Rattle.thread_state.specs.declared.event.Mark.TheVariants as mark
use Rattle.thread_state.specs.{declared.frame.Frame.Frame, Thread.turn_of_pop, Thread.top_of}
use Rattle.thread_state.specs.declared.frame.Frame.TheVariants as frame
use Rattle.machine_scene.specs.Scene.{Scene, Outcome, thread_at, barrier_at, with_barrier, outcome_marked, alone}

-- one stack entry is popped, by the top entry: that of an action breaks its barrier; that of an advance routine ends no
-- phase
abbrev pub outcome_of_popped : Option Frame → ℤ → ℕ → Scene → Outcome
outcome_of_popped (Some (frame.Action b registers row)) code t scene =
    outcome_marked (mark.Broke b) (turn_of_pop code (thread_at scene t)) t
    (with_barrier (end_action false (barrier_at scene b)) b scene)
outcome_of_popped _ code t scene = alone (turn_of_pop code) t scene

-- a turn of a thread that throws
abbrev pub outcome_of_pop : ℤ → ℕ → Scene → Outcome
outcome_of_pop code t scene = outcome_of_popped (top_of (thread_at scene t).stack) code t scene
