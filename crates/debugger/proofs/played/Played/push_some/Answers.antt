use Rattle.std.proofs.Common.{◌≡◌, ◌∙◌, ◌+◌, ◌++◌, ◌∷◌, [], List, All, refl, ap, sym, subst, arith, rules, replicate}
use Rattle.schedule_reader.specs.{declared.run.Run.Run, Joined.AreJoined, Schedule.IsRun, Schedule.choices_of, Schedule.run_of}
use Rattle.debugger.proofs.PlayedRuns.{IsCounted, all_but, all_last, all_with, choices-joined, joined_last, joined_next}
use Rattle.debugger.proofs.played.Played.push_some.Goals.{else-is_same-via-then-is_same+else-last-lt-MOST_TIMES, else-is_same-via-else-is_same}
use Rattle.debugger.proofs.played.Played.push_some.Goals as goal

-- the last run becomes longer
pub invariant_of-self-then-last-lt-MOST_TIMES : goal.invariant_of-self-then-last-lt-MOST_TIMES
invariant_of-self-then-last-lt-MOST_TIMES c =
    let front = c.pop.new.self.items in
    let last = c.in-Some.last in
    let all : c.self.inside.runs.items ≡ front ++ last ∷ [] = search rules in
    let counted = subst (All IsCounted) all c.self.invariant.0 in
    let old = all_last IsCounted front last counted in
    let both : Run = record { choice = c.args.choice; times = last.times + c.min-some.result } in (
      subst (All IsCounted) (sym c.push_reserved.ensures.items)
          (all_with IsCounted front both (all_but IsCounted front last counted)
          (omega (arith, old.0), omega (arith, c.min-some.ensures, old.1))),
      subst AreJoined (sym c.push_reserved.ensures.items)
          (joined_last front last both (sym (c.is_same.ensures.0 c.if-is_same.true)) (subst AreJoined all c.self.invariant.1)),
    )

pub returns-then-last-lt-MOST_TIMES-clause-choices : goal.returns-then-last-lt-MOST_TIMES-clause-choices
returns-then-last-lt-MOST_TIMES-clause-choices c =
    let front = c.pop.new.self.items in
    let last = c.in-Some.last in
    let all : c.args.self.now ≡ front ++ last ∷ [] = search rules in
    let some : Run = run_of c.args.choice c.min-some.result in
    let both : Run = record { choice = c.args.choice; times = last.times + c.min-some.result } in
    ap choices_of c.push_reserved.ensures.items
    ∙ choices-joined front last some both refl (c.is_same.ensures.0 c.if-is_same.true) refl
    ∙ ap (λ (runs : List Run). choices_of runs ++ replicate c.min-some.result c.args.choice) (sym all)

pub returns-then-last-lt-MOST_TIMES-clause-runs : goal.returns-then-last-lt-MOST_TIMES-clause-runs
returns-then-last-lt-MOST_TIMES-clause-runs c = λ thread are.
    let front = c.pop.new.self.items in
    let last = c.in-Some.last in
    let all : c.args.self.now ≡ front ++ last ∷ [] = search rules in
    let those = subst (All IsRun) all are in
    let old = all_last IsRun front last those in
    let both : Run = record { choice = c.args.choice; times = last.times + c.min-some.result } in
    subst (All IsRun) (sym c.push_reserved.ensures.items)
    (all_with IsRun front both (all_but IsRun front last those)
    (record { thread = thread; some = omega (arith, old.some); few = omega (arith, c.min-some.ensures, old.few) }))

-- another one follows it
pub invariant_of-self-2 : goal.invariant_of-self-2
invariant_of-self-2 c =
    let front = c.pop.new.self.items in
    let last = c.in-Some.last in
    let all : c.self.inside.runs.items ≡ front ++ last ∷ [] = search rules in
    let counted = subst (All IsCounted) all c.self.invariant.0 in
    let old = all_last IsCounted front last counted in
    let own : Run = run_of c.args.choice c.push_new_run-2.result in
    let items = c.push_new_run-2.ensures.runs ∙ ap (λ (runs : List Run). runs ++ own ∷ []) c.push_reserved-2.ensures.items in
    let apart : last.choice ≡ c.args.choice → last.times ≡ 1000000000 = λ same. elim c.else-is_same.branch [
      | else-is_same-via-then-is_same+else-last-lt-MOST_TIMES w ↦ omega (arith, w.if-last-lt-MOST_TIMES.false, old.1)
      | else-is_same-via-else-is_same w ↦ absurd (cc (w.if-is_same.false, c.is_same.ensures.1 same))
    ] in (
      subst (All IsCounted) (sym items)
          (all_with IsCounted (front ++ last ∷ []) own counted
          (omega (arith, c.push_new_run-2.ensures.some, c.requires), omega (arith, c.push_new_run-2.ensures.some))),
      subst AreJoined (sym items) (joined_next front last own apart (subst AreJoined all c.self.invariant.1)),
    )

pub returns-clause-runs : goal.returns-clause-runs
returns-clause-runs c = λ thread are.
    let front = c.pop.new.self.items in
    let last = c.in-Some.last in
    let all : c.args.self.now ≡ front ++ last ∷ [] = search rules in
    let own : Run = run_of c.args.choice c.push_new_run-2.result in
    let items = c.push_new_run-2.ensures.runs ∙ ap (λ (runs : List Run). runs ++ own ∷ []) c.push_reserved-2.ensures.items in
    subst (All IsRun) (sym items)
    (all_with IsRun (front ++ last ∷ []) own (subst (All IsRun) all are)
    (record {
      thread = thread;
      some = omega (arith, c.push_new_run-2.ensures.some, c.requires);
      few = omega (arith, c.push_new_run-2.ensures.some);
    }))
