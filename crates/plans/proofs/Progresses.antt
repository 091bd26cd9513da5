-- What a play makes of a progress: nothing, fewer choices left, or a stop; and that a stop is for good.
use Rattle.std.proofs.Common.{◌≡◌, ◌∙◌, ◌+◌, ◌-◌, ◌<◌, ◌==◌, ℕ, zero, suc, Bool, true, false, refl, ap, arith, Option, Some, None, if◌then◌else◌}
use Rattle.thread_machine.specs.{declared.choice.Choice.Choice, declared.fault.StepFault.StepFault, Step.refusal_of}
use Rattle.plans.specs.{declared.word.Rule.Rule, declared.word.Step.Step, Tree.Plan, Tree.Done, Tree.Then, Tree.Group}
use Rattle.plans.specs.{Progress.Progress, Progress.chosen, Progress.chosen_by, Rules.next_choice}
use Rattle.plans.specs.Play.{repeated, followed, followed_by, step_played, plays}

-- a choice was wanted for which none was left
pub record IsOver (progress : Progress) : Type 0 where
  pub none : progress.left ≡ 0
  pub stopped : progress.stopped ≡ true

-- what may come of a play
pub data Comes (before after : Progress) : Type 0 where
  Same : after ≡ before → Comes before after
  Fewer : after.left < before.left → Comes before after
  Over : IsOver after → Comes before after

comes_both : (first second third : Progress) → Comes first second → Comes second third → Comes first third
comes_both first second third given later = grind arith

-- one choice
chosen_comes : (none : Bool) (refusal : Option StepFault) (choice : Choice) (progress : Progress) → (progress.left == 0) ≡ none
    → Comes progress (if none then record progress { stopped = true } else chosen_by refusal choice progress)
chosen_comes true refusal choice progress is = grind arith
chosen_comes false (Some fault) choice progress is = Same refl
chosen_comes false None choice progress is = grind arith

pub choice_comes : (choice : Choice) (progress : Progress) → Comes progress (chosen choice progress)
unfolding chosen
choice_comes choice progress = chosen_comes (progress.left == 0) (refusal_of progress.world choice) choice progress refl

pub choice_over : (choice : Choice) (progress : Progress) → IsOver progress → chosen choice progress ≡ progress
unfolding chosen
choice_over choice progress over = grind arith

-- a play again and again
pub repeated_comes : (times : ℕ) (play : Progress → Progress) (progress : Progress) → ((p : Progress) → Comes p (play p))
    → Comes progress (repeated times play progress)
unfolding repeated
repeated_comes zero play progress comes = Same refl
repeated_comes (suc times) play progress comes = grind (arith, comes_both, repeated_comes times play (play progress) comes)

pub repeated_same : (times : ℕ) (play : Progress → Progress) (progress : Progress) → play progress ≡ progress
    → repeated times play progress ≡ progress
unfolding repeated
repeated_same zero play progress same = refl
repeated_same (suc times) play progress same = ap (repeated times play) same ∙ repeated_same times play progress same

-- the choices of a rule
followed_comes_by : (next : Option Choice) (later : Progress → Progress) (progress : Progress) → ((p : Progress) → Comes p (later p))
    → Comes progress (followed_by next later progress)
followed_comes_by next later progress comes = grind (arith, comes_both, choice_comes)

pub followed_comes : (rule : Rule) (most k : ℕ) (progress : Progress) → Comes progress (followed rule most k progress)
unfolding followed
followed_comes rule zero k progress = Same refl
followed_comes rule (suc most) k progress =
    followed_comes_by (next_choice rule k progress) (λ after. followed rule most (k + 1) after) progress
    (λ p. followed_comes rule most (k + 1) p)

followed_over_by : (next : Option Choice) (later : Progress → Progress) (progress : Progress) → IsOver progress → later progress ≡ progress
    → followed_by next later progress ≡ progress
followed_over_by next later progress over same = grind (arith, choice_over)

pub followed_over : (rule : Rule) (most k : ℕ) (progress : Progress) → IsOver progress → followed rule most k progress ≡ progress
unfolding followed
followed_over rule zero k progress over = refl
followed_over rule (suc most) k progress over = grind (arith, followed_over_by, followed_over rule most (k + 1) progress over)

-- a step
step_comes : (one : Step) (progress : Progress) → Comes progress (step_played one progress)
unfolding step_played
step_comes one progress = grind (arith, repeated_comes, choice_comes, followed_comes)

step_over : (one : Step) (progress : Progress) → IsOver progress → step_played one progress ≡ progress
unfolding step_played
step_over one progress over = grind (arith, repeated_same, choice_over, followed_over)

-- a plan
pub plan_comes : (plan : Plan) (progress : Progress) → Comes progress (plays plan progress)
unfolding plays
plan_comes Done progress = Same refl
plan_comes (Then one rest) progress = grind (arith, comes_both, step_comes, plan_comes rest (step_played one progress))
plan_comes (Group body times rest) progress =
    let once = plays body progress in
    let all = repeated (times - 1) (λ before. plays body before) once in
    comes_both progress all (plays rest all)
    (comes_both progress once all (plan_comes body progress) (repeated_comes (times - 1) (λ before. plays body before) once (λ p. plan_comes body p)))
    (plan_comes rest all)

pub plan_over : (plan : Plan) (progress : Progress) → IsOver progress → plays plan progress ≡ progress
unfolding plays
plan_over Done progress over = refl
plan_over (Then one rest) progress over = grind (arith, step_over, plan_over rest progress over)
plan_over (Group body times rest) progress over = grind (arith, repeated_same, plan_over body progress over, plan_over rest progress over)

-- a pass that left as many choices as there were makes none when it is played again
pub settles : (plan : Plan) (progress : Progress) → (plays plan progress).left ≡ progress.left
    → plays plan (plays plan progress) ≡ plays plan progress
settles plan progress left = grind (arith, plan_comes, plan_over)
