-- What follows if another choice is made instead of the next choice of a run. The thread of the other choice continues
-- until it waits or ends. Then the run's own choices follow, without those that would do nothing. Then the threads take
-- turns.
use Rattle.std.specs.Prelude.{ℕ, ◌&&◌, nat_lt, if◌then◌else◌, Bool, List, [], ◌∷◌}
use Rattle.thread_machine.specs.{declared.choice.Choice.Choice, Ready.is_choice_ready, World.World}
use Rattle.plans.specs.declared.word.Rule.TheVariants as rule
use Rattle.plans.specs.{Play.followed, Progress.Progress, Progress.begun_at, Progress.chosen, Rules.thread_count}

-- the chosen thread, for at most 100 turns
unfoldable pub gone_ahead : Choice → Progress → Progress
gone_ahead choice progress = followed (rule.Alone choice.thread) 99 0 (chosen choice progress)

-- a choice would be a step
unfoldable pub is_step_in : World → Choice → Bool
is_step_in world choice =
    nat_lt choice.thread (thread_count world) && is_choice_ready world.program choice world.scene

-- a choice of the run is left out if it would do nothing
unfoldable pub kept : Choice → Progress → Progress
kept choice progress = if is_step_in progress.world choice then chosen choice progress else progress

unfoldable pub all_kept : List Choice → Progress → Progress
all_kept [] progress = progress
all_kept (choice ∷ choices) progress = all_kept choices (kept choice progress)

-- the threads take turns, for as many choices as are left
unfoldable pub turned_about : Progress → Progress
turned_about progress = followed rule.TurnAbout progress.left 0 progress

-- the choices from this world on, so many at most: this one and its thread's, then the run's own from there, then the others'
abbrev pub other_choices : World → ℕ → Choice → List Choice → List Choice
other_choices world most choice own =
    (turned_about (all_kept own (gone_ahead choice (record (begun_at world) { left = most })))).choices
