use Rattle.std.proofs.{Common.rules, Common.of_calls, lemmas.Fn.always_returns_same, lemmas.Result.on_ok_weaker}
use Rattle.commands.specs.Outcomes.{is_more_frequent}
use Rattle.commands.proofs.Counting.{more_frequent_is_an_order}
use Rattle.commands.proofs.outcomes.sort.Goals as goal

pub returns-clause-sorted : goal.returns-clause-sorted
returns-clause-sorted c =
    let compares = always_returns_same _ _ _ (λ a r f k. search (rules, of_calls)) in
    on_ok_weaker c.sort_by.result (λ so. so is_more_frequent more_frequent_is_an_order compares) c.sort_by.ensures.sorted
