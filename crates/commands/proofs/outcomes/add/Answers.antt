use Rattle.std.proofs.Common.{◌≡◌, ◌+◌, ap, refl, sym, rules, ◌∙◌, Some, None, cond, option_map}
use Rattle.std.specs.String.{string_bytes}
use Rattle.indexmap.specs.IndexMap.{get}
use Rattle.commands.specs.declared.{end_state.EndState.EndState, outcomes.Outcome.Outcome}
use Rattle.commands.specs.Outcomes.{Ended, is_state, reported, reported_in}
use Rattle.commands.proofs.Counting.{and_run, grown, some-there}
use Rattle.commands.proofs.outcomes.add.Goals as goal

pub returns-in-Some : goal.returns-in-Some
returns-in-Some c = λ runs are.
    let old = c.args.outcomes.now in
    let run : Ended = record { seed = c.args.seed; schedule = string_bytes c.args.schedule; ending = c.args.ending; state = c.args.state.text.items } in
    let kept = c.in-Some.outcome.now in
    let w : Outcome = record { times = kept.times + 1; ending = kept.ending; seed = kept.seed; schedule = kept.schedule } in
    let there : get is_state old c.args.state ≡ Some kept = search rules in
    let wrote = c.get_mut.follows.holds w in
    let before : Some (reported kept) ≡ reported_in runs c.args.state.text.items = ap (option_map reported) (sym there) ∙ are.1 c.args.state in (
      wrote.4,
      grown runs run (get is_state old) (get is_state (c.get_mut.follows.lender w)) c.args.state w are.1
          (wrote.3 (some-there _ kept there)).0 refl (ap (λ o. and_run o run) before),
    )

pub returns : goal.returns
returns c = λ runs are.
    let old = c.args.outcomes.now in
    let run : Ended = record { seed = c.args.seed; schedule = string_bytes c.args.schedule; ending = c.args.ending; state = c.args.state.text.items } in
    let w : Outcome = record { times = 1; ending = c.args.ending; seed = c.args.seed; schedule = c.args.schedule } in
    let none : get is_state old c.args.state ≡ None = search rules in
    let updates : (state : EndState) → get is_state c.insert.new.self state ≡ cond (is_state c.args.state state) (Some w) (get is_state old state) = search rules in
    let before : None ≡ reported_in runs c.args.state.text.items = ap (option_map reported) (sym none) ∙ are.1 c.args.state in (
      c.insert.ensures.unique,
      grown runs run (get is_state old) (get is_state c.insert.new.self) c.args.state w are.1
          updates refl (ap (λ o. and_run o run) before),
    )
