use Rattle.std.proofs.Common.{◌≡◌, ◌∙◌, ◌+◌, ◌++◌, ap, append_assoc, arith, drop, rules, sym, Some, is_some, slice_get}
use Rattle.commands.specs.{declared.end_state.EndState.EndState, declared.outcomes.Outcome.Outcome, Named.names_seen}
use Rattle.commands.specs.Outcomes.{outcome_line, report}
use Rattle.commands.proofs.{Reports.texts-at, report.report.Goals.in-Some+in_ok-push_line, report.report.Goals.in_default}
use Rattle.commands.proofs.report.report.Goals as goal

pub loop-place-preserved : goal.loop-place-preserved
loop-place-preserved c =
    let entries = c.args.outcomes.now.entries in
    let i = c.loop-place.place in
    elim c.match-get_index.branch [
      | in-Some+in_ok-push_line w ↦
          let at : slice_get entries i ≡ Some (w.in-Some.state.now, w.in-Some.outcome.now) = search rules in
          let lines = texts-at (λ (outcome : EndState × Outcome). outcome_line (names_seen c.args.names) outcome) entries i (w.in-Some.state.now, w.in-Some.outcome.now) at in
          ap (λ t. t ++ report (names_seen c.args.names) (drop (i + 1) entries)) (ap (λ text. text.items) w.text-is ∙ w.in_ok-push_line.ensures)
          ∙ append_assoc c.loop-place.text.items (outcome_line (names_seen c.args.names) (w.in-Some.state.now, w.in-Some.outcome.now)) (report (names_seen c.args.names) (drop (i + 1) entries))
          ∙ ap (λ rest. c.loop-place.text.items ++ rest) (sym lines) ∙ c.loop-place.invariant
      | in_default w ↦
          let there = c.get_index.ensures.found.1 (omega (arith, c.loop-place-test.true, c.len-place-end.ensures.len)) in
          let no : ⊥ = cc (there, ap is_some w.in_default.is) in absurd no
    ]
