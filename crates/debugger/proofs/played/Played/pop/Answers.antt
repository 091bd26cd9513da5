use Rattle.std.proofs.Common.{◌≡◌, ◌∙◌, ◌-◌, ◌++◌, ◌∷◌, [], List, All, ap, refl, sym, subst, arith, rules, length, take}
use Rattle.schedule_reader.specs.{declared.run.Run.Run, Joined.AreJoined, Schedule.IsRun, Schedule.choices_of}
use Rattle.debugger.proofs.PlayedRuns.{IsCounted, all_but, all_last, all_with, choices-less, choices-push, joined_front, joined_last}
use Rattle.debugger.proofs.played.Played.pop.Goals as goal

pub returns-then-last-gt1-clause-choices : goal.returns-then-last-gt1-clause-choices
returns-then-last-gt1-clause-choices c =
    let front = c.pop.new.self.items in
    let last = c.in-Some.last in
    let all : c.args.self.now ≡ front ++ last ∷ [] = search rules in
    ap choices_of c.push_reserved.ensures.items
    ∙ choices-push front (record { choice = last.choice; times = last.times - 1 })
    ∙ choices-less front last (last.times - 1) (omega (arith, c.if-last-gt1.true))
    ∙ ap (λ (runs : List Run). take (length (choices_of runs) - 1) (choices_of runs)) (sym all)

pub returns-then-last-gt1-clause-runs : goal.returns-then-last-gt1-clause-runs
returns-then-last-gt1-clause-runs c = λ are.
    let front = c.pop.new.self.items in
    let last = c.in-Some.last in
    let all : c.args.self.now ≡ front ++ last ∷ [] = search rules in
    let those = subst (All IsRun) all are in
    let is = all_last IsRun front last those in
    subst (All IsRun) (sym c.push_reserved.ensures.items)
    (all_with IsRun front (record { choice = last.choice; times = last.times - 1 }) (all_but IsRun front last those)
    (record { thread = is.thread; some = omega (arith, c.if-last-gt1.true); few = omega (arith, is.few) }))

pub invariant_of-self-then-last-gt1 : goal.invariant_of-self-then-last-gt1
invariant_of-self-then-last-gt1 c =
    let front = c.pop.new.self.items in
    let last = c.in-Some.last in
    let all : c.self.inside.runs.items ≡ front ++ last ∷ [] = search rules in
    let counted = subst (All IsCounted) all c.self.invariant.0 in
    let less : Run = record { choice = last.choice; times = last.times - 1 } in (
      subst (All IsCounted) (sym c.push_reserved.ensures.items)
          (all_with IsCounted front less (all_but IsCounted front last counted)
          (omega (arith, c.if-last-gt1.true), omega (arith, (all_last IsCounted front last counted).1))),
      subst AreJoined (sym c.push_reserved.ensures.items) (joined_last front last less refl (subst AreJoined all c.self.invariant.1)),
    )

pub invariant_of-self-else-last-gt1 : goal.invariant_of-self-else-last-gt1
invariant_of-self-else-last-gt1 c =
    let front = c.pop.new.self.items in
    let last = c.in-Some.last in
    let all : c.self.inside.runs.items ≡ front ++ last ∷ [] = search rules in (
      all_but IsCounted front last (subst (All IsCounted) all c.self.invariant.0),
      joined_front front last (subst AreJoined all c.self.invariant.1),
    )
