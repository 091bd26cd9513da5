use Rattle.std.proofs.Common.{length, ◌-◌, ◌≡◌, ◌≤◌, ◌+◌, ◌*◌, ◌++◌, List}
use Rattle.plans.specs.{declared.word.Word.Word, Tree.Plan, Tree.words_of_plan, Groups.IsEnd, Play.plays, Play.repeated}
use Rattle.plans.proofs.Groups.{IsLeft}
use Rattle.plans.proofs.player.Player.+words.Given as goal

abbrev pub decreases-play_again : goal.decreases-play_again
decreases-play_again l = 3 * length l.words.now + 1

abbrev pub decreases-play_group : goal.decreases-play_group
decreases-play_group l = 3 * length l.words.now + 2

abbrev pub decreases-play_words : goal.decreases-play_words
decreases-play_words l = 3 * length l.words.now

-- the times that are left lead to where all lead
abbrev pub invariant-play_again-loop-done : goal.invariant-play_again-loop-done
invariant-play_again-loop-done l =
    (body : Plan) (tail : List Word) → l.words ≡ words_of_plan body ++ tail → IsEnd tail
    → repeated (l.times - l.done) (λ p. plays body p) l.self ≡ repeated (l.times - 1) (λ p. plays body p) l.initial.self

-- what is left of a plan leads to where all of it leads
abbrev pub invariant-play_words-loop-step : goal.invariant-play_words-loop-step
invariant-play_words-loop-step l =
    (length l.words ≤ length l.initial.words) × IsLeft l.initial.words l.words l.initial.self l.self

abbrev pub decreases-play_words-loop-step : goal.decreases-play_words-loop-step
decreases-play_words-loop-step l = length l.words
