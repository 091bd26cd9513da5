use Rattle.std.proofs.Common.{◌≡◌, ◌∷◌, [], ◌++◌, ap, arith, map, refl, subst, sym, Err, length-append}
use Rattle.line_reader.specs.Seen.{name_seen}
use Rattle.commands.specs.{Outcomes.AreOutcomes, Outcomes.is_state, Seeds.IsEndBy, Seeds.IsFirstUnlike}
use Rattle.commands.specs.declared.unplanned.Unplanned.TheVariants as why
use Rattle.indexmap.specs.IndexMap.{get}
use Rattle.commands.proofs.{Counting.few, Counting.nothing, Seeded.one_is_refused, Seeded.one_more, Seeded.one_more_unlike}
use Rattle.commands.proofs.seeds.counted.Goals as goal

pub loop-number-init : goal.loop-number-init
loop-number-init c = ([], (refl, tt, subst (AreOutcomes []) (sym c.new-outcomes.ensures.empty) nothing, tt))

pub add_order-requires-clause-few : goal.add_order-requires-clause-few
add_order-requires-clause-few c = λ other.
    let so = c.loop-number.invariant in
    few so.0 (get is_state c.loop-number.outcomes other) other.text.items (so.1.2.1 other)
    (omega (arith, so.1.0, c.loop-number-test.true, c.requires.few))

pub loop-number-preserved : goal.loop-number-preserved
loop-number-preserved c =
    let so = c.loop-number.invariant in
    let more = c.in-Ok.ensures.added so.0 so.1.2 in
    let count = length-append so.0 (more.0 ∷ []) in
    let names = map name_seen c.args.names.now in (
      so.0 ++ more.0 ∷ [],
      (
        omega (arith, count, so.1.0),
        one_more c.args.program.now names c.args.plan.now c.args.seeds.now.limit c.args.seeds.now.first so.0 more.0 so.1.1
            (subst (λ n. IsEndBy c.args.program.now names c.args.plan.now c.args.seeds.now.limit n more.0) (omega (arith, so.1.0, c.from.ensures, c.from-in-loop-number.ensures)) more.1.0),
        more.1.1,
        subst (λ u. IsFirstUnlike c.args.seeds.now.expected.now (so.0 ++ more.0 ∷ []) u) (sym c.or-unlike.ensures)
            (one_more_unlike c.args.seeds.now.expected.now so.0 more.0 _ _ so.1.3 more.1.2),
      ),
    )

pub returns-in-Err-clause-refused : goal.returns-in-Err-clause-refused
returns-in-Err-clause-refused c = λ f is.
    let same : c.in-Err.reason ≡ why.Plan f = cc is in
    one_is_refused c.args.seeds.now (map name_seen c.args.names.now) c.args.plan.now f c.loop-number.number _ c.loop-number-test.true
    (omega (arith, c.from.ensures, c.from-in-loop-number.ensures)) (c.in-Err.ensures.refused f (ap Err same))

pub returns-clause-outcomes : goal.returns-clause-outcomes
returns-clause-outcomes c =
    let so = c.loop-number.invariant in
    (so.0, (omega (arith, so.1.0, c.loop-number.far-number, c.loop-number-test.false), so.1.1, so.1.2, so.1.3))
