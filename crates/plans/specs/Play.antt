-- Which choices a plan plays.
use Rattle.std.specs.Prelude.{ℕ, zero, suc, ◌+◌, ◌-◌, Option, Some, None}
use Rattle.thread_machine.specs.declared.choice.Choice.{Choice}
use Rattle.plans.specs.{declared.word.Chosen.Chosen, declared.word.Rule.Rule, declared.word.Step.Step, Rules.next_choice}
use Rattle.plans.specs.{Tree.Plan, Tree.Done, Tree.Then, Tree.Group, Progress.Progress, Progress.chosen}
use Rattle.plans.specs.declared.word.Step.TheVariants as step

-- a progress that is played so many more times
unfoldable pub repeated : ℕ → (Progress → Progress) → Progress → Progress
repeated zero play progress = progress
repeated (suc times) play progress = repeated times play (play progress)

-- at most so many choices of a rule, from choice k on: each is the rule's in the world that those before it left, until the
-- rule has none
abbrev pub followed_by : Option Choice → (Progress → Progress) → Progress → Progress
followed_by None later progress = progress
followed_by (Some choice) later progress = later (chosen choice progress)

unfoldable pub followed : Rule → ℕ → ℕ → Progress → Progress
followed rule zero k progress = progress
followed rule (suc most) k progress =
    followed_by (next_choice rule k progress) (λ after. followed rule most (k + 1) after) progress

-- as many as are allowed at all, and one more, for which none is left
abbrev pub most_of : Option ℕ → Progress → ℕ
most_of None progress = progress.left + 1
most_of (Some most) progress = most

abbrev pub choice_of : Chosen → Choice
choice_of who = record { thread = who.thread; expiry = who.expiry }

unfoldable pub step_played : Step → Progress → Progress
step_played (step.Make who times) progress = repeated times (chosen (choice_of who)) progress
step_played (step.Follow rule most) progress = followed rule (most_of most progress) 0 progress

-- one step after another; a group once, and then again until it was played so many times
unfoldable pub plays : Plan → Progress → Progress
plays Done progress = progress
plays (Then step rest) progress = plays rest (step_played step progress)
plays (Group body times rest) progress =
    plays rest (repeated (times - 1) (λ before. plays body before) (plays body progress))
