use Rattle.std.proofs.Common.{rules, tests, not, ◌==◌, length, codes}
use Rattle.std.proofs.lemmas.Iterator.{Consumers.YieldsList-from_filter, Consumers.YieldsList-at, Search.all_from_yields_List}
use Rattle.std.proofs.lemmas.Iterator.Splits.{YieldsList-from_slice_split}
use Rattle.std.specs.Str.{bytes_eq}
use Rattle.line_reader.specs.Words.{is_blank}
use Rattle.workbench.proofs.run_line.has_only_run.Goals as goal

pub returns : goal.returns
returns c =
    all_from_yields_List (λ word. bytes_eq word (codes ".run")) _ _ c.all.result c.all.ensures.ran
    (YieldsList-from_filter _ (λ piece. not (length piece == 0))
    (YieldsList-at c.filter.ensures.source
    (YieldsList-from_slice_split _ is_blank c.args.text.now c.split.ensures.rest c.split.ensures.done c.split.ensures.closure (λ x b q k. search (rules, tests))))
    c.filter.ensures.closure (λ x b q k. search (rules, tests)))
    (λ x b q k. search (rules, tests))
