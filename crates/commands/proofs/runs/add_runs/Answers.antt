use Rattle.std.proofs.Common.{◌∷◌, [], ◌++◌, arith, refl, subst, sym, length-append}
use Rattle.std.proofs.lemmas.List.Elements.{All-append, All-cons, All-nil}
use Rattle.thread_machine.specs.World.{first_world}
use Rattle.commands.specs.Outcomes.{AreOutcomes, IsEndedFrom, is_state}
use Rattle.indexmap.specs.IndexMap.{get}
use Rattle.commands.proofs.Counting.{few, nothing}
use Rattle.commands.proofs.runs.add_runs.Goals as goal

pub loop-number-init : goal.loop-number-init
loop-number-init g c =
    ([], (refl, (λ k d below. absurd (omega (arith, below))), subst (AreOutcomes []) (sym c.requires.none) nothing))

pub add_run-requires-clause-outcomes : goal.add_run-requires-clause-outcomes
add_run-requires-clause-outcomes g c = λ other.
    let so = c.loop-number.invariant in
    few so.0 (get is_state c.loop-number.outcomes other) other.text.items (so.1.2.1 other)
    (omega (arith, so.1.0, c.loop-number-test.true, c.requires.count))

pub loop-number-preserved : goal.loop-number-preserved
loop-number-preserved g c =
    let so = c.loop-number.invariant in
    let first = first_world c.args.program.now c.args.limit in
    let more = c.in_ok-add_run.ensures.added first so.0 c.in_ok-run.ensures.record.replay c.in_ok-run.ensures.ending so.1.2 in
    let count = length-append so.0 (more.0 ∷ []) in (
      so.0 ++ more.0 ∷ [],
      (
        omega (arith, count, so.1.0),
        All-append (IsEndedFrom first) so.0 (more.0 ∷ []) so.1.1 (All-cons (IsEndedFrom first) more.0 [] more.1.0 (All-nil (IsEndedFrom first))),
        more.1.1,
      ),
    )
