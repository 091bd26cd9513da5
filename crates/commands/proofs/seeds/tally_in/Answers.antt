use Rattle.std.proofs.Common.{rules, ℕ, List, ap, map, subst, sym, Err}
use Rattle.std.specs.Borrow.{Bor}
use Rattle.line_reader.specs.Seen.{name_seen}
use Rattle.commands.specs.{Planning.HasThreads, Seeds.AreOutcomesBy}
use Rattle.commands.proofs.PlanParts.{no_report}
use Rattle.commands.proofs.seeds.tally_in.Goals as goal

pub returns-clause-refused : goal.returns-clause-refused
returns-clause-refused c =
    no_report c.in-Err.reason c.args.program (map name_seen c.as_slice.result.now) c.args.plan.now c.args.seeds.now
    (subst (λ (ns : List (Bor (List ℕ))). HasThreads c.args.program.image c.args.program.names (map name_seen ns)) (sym c.as_slice.ensures.value) c.in_ok-loaded.ensures.names)
    (λ f is. c.in-Err.ensures.refused f (ap Err is)) (λ f is. c.in-Err.ensures.other f (ap Err is))

pub returns-in-Ok-clause-outcomes : goal.returns-in-Ok-clause-outcomes
returns-in-Ok-clause-outcomes c =
    let are : AreOutcomesBy c.in_ok-loaded.loaded (map name_seen c.as_slice.result.now) c.args.plan.now c.args.seeds.now c.in-Ok.tally.outcomes.entries c.in-Ok.tally.unlike = search rules in (
      c.in_ok-loaded.loaded,
      (
        c.in_ok-loaded.ensures.program,
        subst (λ (ns : List (Bor (List ℕ))). AreOutcomesBy c.in_ok-loaded.loaded (map name_seen ns) c.args.plan.now c.args.seeds.now c.in-Ok.tally.outcomes.entries c.in-Ok.tally.unlike) c.as_slice.ensures.value are,
      ),
    )
