use Rattle.std.proofs.Common.{◌≡◌, ◌∙◌, sym, subst, rules, arith, None}
use Rattle.std.proofs.lemmas.Result.{on_ok_weaker}
use Rattle.thread_runner.specs.{Recording.Recording, Recording.recorded_world, Endings.ending_of, Turns.may_choose}
use Rattle.thread_runner.proofs.{Threads.one_more, Choosing.chooser}
use Rattle.thread_runner.proofs.journaled.Journaled.take_next.Goals as goal

pub loop-t-preserved : goal.loop-t-preserved
loop-t-preserved c = (
  c.loop-t.invariant.0,
  one_more (may_choose (recorded_world c.loop-t.self)) c.loop-t.t c.loop-t.invariant.1 (sym c.may_choose.ensures ∙ c.if-may_choose.false),
)

pub unreachable-requires : goal.unreachable-requires
unreachable-requires c =
    let none : ending_of (recorded_world c.loop-t.self) ≡ None = subst (λ (r : Recording). ending_of (recorded_world r) ≡ None) (sym c.loop-t.invariant.0) c.requires in
    let found = chooser (recorded_world c.loop-t.self) none in
    let not = c.loop-t.invariant.1 found.at (search (rules, arith, found.there)) in
    absurd (cc (found.chooses, not))

pub returns-then-may_choose-clause-recorded : goal.returns-then-may_choose-clause-recorded
returns-then-may_choose-clause-recorded c = grind (arith, on_ok_weaker)
