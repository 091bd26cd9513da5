-- Repetitions and rules, one choice more at a time.
use Rattle.std.proofs.Common.{◌≡◌, ◌∙◌, ◌+◌, ◌-◌, ◌<◌, ◌≤◌, ◌==◌, ℕ, true, sym, arith, ◌&&◌, Some, None}
use Rattle.thread_machine.specs.declared.choice.Choice.{Choice}
use Rattle.plans.specs.{declared.word.Rule.Rule, Progress.Progress, Progress.chosen, Rules.next_choice}
use Rattle.plans.specs.Play.{repeated, followed, followed_by}
use Rattle.plans.proofs.Progresses.{IsOver, choice_over, repeated_same, followed_over}

pub is_over : (progress : Progress) → ((progress.left == 0) && progress.stopped) ≡ true → IsOver progress
is_over progress both = grind arith

repeated_here : (play : Progress → Progress) (done times : ℕ) (progress : Progress) → done < times
    → repeated (times - done) play progress ≡ repeated (times - (done + 1)) play (play progress)
unfolding repeated
repeated_here play done times progress there = grind arith

pub next_repeated : (play : Progress → Progress) (done times : ℕ) (before after all : Progress) → done < times
    → repeated (times - done) play before ≡ all → after ≡ play before → repeated (times - (done + 1)) play after ≡ all
next_repeated play done times before after all there so is = grind (arith, repeated_here)

pub all_repeated : (play : Progress → Progress) (done times : ℕ) (progress all : Progress) → times ≤ done
    → repeated (times - done) play progress ≡ all → progress ≡ all
unfolding repeated
all_repeated play done times progress all enough so = grind arith

pub settled_repeated : (play : Progress → Progress) (done times : ℕ) (before after all : Progress) → done < times
    → repeated (times - done) play before ≡ all → after ≡ play before → play after ≡ after → after ≡ all
settled_repeated play done times before after all there so is same =
    sym (repeated_same (times - (done + 1)) play after same) ∙ next_repeated play done times before after all there so is

pub over_repeated : (choice : Choice) (done times : ℕ) (before after all : Progress) → done < times
    → repeated (times - done) (chosen choice) before ≡ all → after ≡ chosen choice before
    → ((after.left == 0) && after.stopped) ≡ true → after ≡ all
over_repeated choice done times before after all there so is over =
    settled_repeated (chosen choice) done times before after all there so is (choice_over choice after (is_over after over))

followed_here : (rule : Rule) (k most : ℕ) (progress : Progress) → k < most
    → followed rule (most - k) k progress
    ≡ followed_by (next_choice rule k progress) (λ after. followed rule (most - (k + 1)) (k + 1) after) progress
unfolding followed
followed_here rule k most progress there = grind arith

pub next_followed : (rule : Rule) (k most : ℕ) (before after all : Progress) (choice : Choice) → k < most
    → followed rule (most - k) k before ≡ all → next_choice rule k before ≡ Some choice → after ≡ chosen choice before
    → followed rule (most - (k + 1)) (k + 1) after ≡ all
next_followed rule k most before after all choice there so next is = grind (arith, followed_here)

pub none_followed : (rule : Rule) (k most : ℕ) (before all : Progress) → k < most
    → followed rule (most - k) k before ≡ all → next_choice rule k before ≡ None → before ≡ all
none_followed rule k most before all there so next = grind (arith, followed_here)

pub all_followed : (rule : Rule) (k most : ℕ) (progress all : Progress) → most ≤ k
    → followed rule (most - k) k progress ≡ all → progress ≡ all
unfolding followed
all_followed rule k most progress all enough so = grind arith

pub over_followed : (rule : Rule) (k most : ℕ) (before after all : Progress) (choice : Choice) → k < most
    → followed rule (most - k) k before ≡ all → next_choice rule k before ≡ Some choice → after ≡ chosen choice before
    → ((after.left == 0) && after.stopped) ≡ true → after ≡ all
over_followed rule k most before after all choice there so next is over =
    sym (followed_over rule (most - (k + 1)) (k + 1) after (is_over after over))
    ∙ next_followed rule k most before after all choice there so next is
