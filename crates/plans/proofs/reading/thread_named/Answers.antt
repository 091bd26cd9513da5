use Rattle.std.proofs.Common.{◌∙◌, sym, rules, tests, bytes_eq}
use Rattle.std.proofs.lemmas.Iterator.{YieldsList-from_slice, Search.position_from_yields_List}
use Rattle.line_reader.specs.Seen.{Borrowed}
use Rattle.plans.proofs.Names.{same_position}
use Rattle.plans.proofs.reading.thread_named.Goals as goal

pub returns-in-Some : goal.returns-in-Some
returns-in-Some c =
    sym c.in-Some.is
    ∙ position_from_yields_List (λ (one : Borrowed). bytes_eq one.now c.args.name.now) _ _ c.position.result c.position.ensures.ran (YieldsList-from_slice _ c.iter.ensures.rest) (λ x b q k. search (rules, tests))
    ∙ same_position c.args.name.now c.args.names.now

pub returns-in-None : goal.returns-in-None
returns-in-None c =
    sym c.in-None.is
    ∙ position_from_yields_List (λ (one : Borrowed). bytes_eq one.now c.args.name.now) _ _ c.position.result c.position.ensures.ran (YieldsList-from_slice _ c.iter.ensures.rest) (λ x b q k. search (rules, tests))
    ∙ same_position c.args.name.now c.args.names.now
