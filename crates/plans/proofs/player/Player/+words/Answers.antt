use Rattle.std.proofs.Common.{◌≡◌, ◌∙◌, ◌<◌, ◌≤◌, ◌∷◌, length, ap, sym, subst, rules, arith}
use Rattle.plans.specs.declared.word.Word.TheVariants as word
use Rattle.plans.specs.{Play.plays, Groups.HasPlayed}
use Rattle.plans.proofs.Groups.{step_left, open_left, close_left, end_left, again_group, settled_again, settled_pass}
use Rattle.plans.proofs.Repeats.{next_repeated, settled_repeated, all_repeated}
use Rattle.plans.proofs.player.Player.+words.Goals as goal

pub play_again-returns-then-left : goal.play_again-returns-then-left
play_again-returns-then-left t c = λ body tail whole end.
    let there : c.loop-done.done < c.args.times = search (rules, arith) in
    let pass = (c.in_ok-play_words.ensures.played body tail (c.again.ensures ∙ whole) end).after in
    let same : c.play_words.new.self.left ≡ c.loop-done.self.left = sym c.left.ensures.left ∙ c.if-left.true ∙ c.left-left.ensures.left in
    settled_repeated (λ p. plays body p) c.loop-done.done c.args.times c.loop-done.self c.play_words.new.self _ there
    (c.loop-done.invariant body tail whole end) pass (settled_pass body c.loop-done.self c.play_words.new.self pass same)

pub play_again-loop-done-preserved : goal.play_again-loop-done-preserved
play_again-loop-done-preserved t c = λ body tail whole end.
    let there : c.loop-done.done < c.args.times = search (rules, arith) in
    next_repeated (λ p. plays body p) c.loop-done.done c.args.times c.loop-done.self c.play_words.new.self _ there
    (c.loop-done.invariant body tail whole end) (c.in_ok-play_words.ensures.played body tail (c.again.ensures ∙ whole) end).after

pub play_again-returns : goal.play_again-returns
play_again-returns t c = λ body tail whole end.
    let enough : c.args.times ≤ c.loop-done.done = search (rules, arith) in
    all_repeated (λ p. plays body p) c.loop-done.done c.args.times c.loop-done.self _ enough (c.loop-done.invariant body tail whole end)

pub play_group-returns-else-left-clause-played : goal.play_group-returns-else-left-clause-played
play_group-returns-else-left-clause-played t c =
    let words = c.args.words.now in
    let rest = c.play_words.new.words in
    let before = c.args.self.now in
    let once = c.play_words.new.self in
    let same : once.left ≡ before.left = sym c.left.ensures.left ∙ c.if-left.false ∙ c.left-left.ensures.left in
    let first = subst (λ times. HasPlayed words times rest before once) c.in-Some.is c.in_ok-times.ensures.played in
    again_group words rest c.in-Some.times before once once first (settled_again words rest c.in-Some.times before once first same)

pub play_words-loop-step-preserved-in-Continue-1 : goal.play_words-loop-step-preserved-in-Continue-1
play_words-loop-step-preserved-in-Continue-1 t c =
    let here : c.loop-step.words ≡ word.Step c.in-Some-Step.step ∷ c.next.new.self = search rules in
    let long = ap length here in (
      omega (arith, long, c.loop-step.invariant.0),
      step_left c.args.words.now c.loop-step.words c.next.new.self c.in-Some-Step.step c.args.self.now c.loop-step.self c.play_step.new.self
          here c.in_ok-play_step-in-Some-Step.ensures c.loop-step.invariant.1,
    )

pub play_words-loop-step-preserved : goal.play_words-loop-step-preserved
play_words-loop-step-preserved t c =
    let here : c.loop-step.words ≡ word.Open ∷ c.next.new.self = search rules in
    let long = ap length here in (
      omega (arith, long, c.in_ok-play_group-in-Some-Open.ensures.within, c.loop-step.invariant.0),
      open_left c.args.words.now c.loop-step.words c.next.new.self c.play_group.new.words c.args.self.now c.loop-step.self
          c.play_group.new.self here c.in_ok-play_group-in-Some-Open.ensures.played c.loop-step.invariant.1,
    )

pub play_words-returns-in-Some-Close-clause-played : goal.play_words-returns-in-Some-Close-clause-played
play_words-returns-in-Some-Close-clause-played t c =
    let here : c.loop-step.words ≡ word.Close c.in-Some-Close.times ∷ c.next.new.self = search rules in
    close_left c.args.words.now c.loop-step.words c.next.new.self c.in-Some-Close.times c.args.self.now c.loop-step.self here
    c.loop-step.invariant.1

pub play_words-returns-in-None-clause-played : goal.play_words-returns-in-None-clause-played
play_words-returns-in-None-clause-played t c =
    end_left c.args.words.now c.loop-step.words c.next.new.self c.args.self.now c.loop-step.self (c.next.ensures.none c.in-None.is)
    c.loop-step.invariant.1
