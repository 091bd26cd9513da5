use Rattle.std.proofs.Common.{◌≡◌, ◌∙◌, ◌+◌, ◌&&◌, ap, arith, drop, false, true, rules, sym, Some, is_some, slice_get}
use Rattle.commands.specs.declared.{end_state.EndState.EndState, outcomes.Outcome.Outcome}
use Rattle.commands.specs.Outcomes.{are_as_expected, is_as_expected}
use Rattle.commands.proofs.Reports.{all-at}
use Rattle.commands.proofs.report.are_as_expected.Goals.{in-Some+else-not-is_as_expected, in_default}
use Rattle.commands.proofs.report.are_as_expected.Goals as goal

pub returns-then-not-is_as_expected : goal.returns-then-not-is_as_expected
returns-then-not-is_as_expected c =
    let entries = c.args.outcomes.now.entries in
    let i = c.loop-place.place in
    let at : slice_get entries i ≡ Some (c.in-Some.state.now, c.in-Some.field-0-1.now) = search rules in
    let all = all-at (λ (outcome : EndState × Outcome). is_as_expected c.args.expected.now outcome) entries i (c.in-Some.state.now, c.in-Some.field-0-1.now) at in
    let isnt : is_as_expected c.args.expected.now (c.in-Some.state.now, c.in-Some.field-0-1.now) ≡ false = search rules in
    sym (ap (λ b. b && are_as_expected c.args.expected.now (drop (i + 1) entries)) isnt) ∙ sym all ∙ c.loop-place.invariant

pub loop-place-preserved : goal.loop-place-preserved
loop-place-preserved c =
    let entries = c.args.outcomes.now.entries in
    let i = c.loop-place.place in
    elim c.match-get_index.branch [
      | in-Some+else-not-is_as_expected w ↦
          let at : slice_get entries i ≡ Some (w.in-Some.state.now, w.in-Some.field-0-1.now) = search rules in
          let all = all-at (λ (outcome : EndState × Outcome). is_as_expected c.args.expected.now outcome) entries i (w.in-Some.state.now, w.in-Some.field-0-1.now) at in
          let is : true ≡ is_as_expected c.args.expected.now (w.in-Some.state.now, w.in-Some.field-0-1.now) = w.if-not-is_as_expected.ensures in
          ap (λ b. b && are_as_expected c.args.expected.now (drop (i + 1) entries)) is ∙ sym all ∙ c.loop-place.invariant
      | in_default w ↦
          let there = c.get_index.ensures.found.1 (omega (arith, c.loop-place-test.true, c.len-place-end.ensures.len)) in
          let no : ⊥ = cc (there, ap is_some w.in_default.is) in absurd no
    ]
