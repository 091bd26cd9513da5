use Rattle.std.proofs.Common.{rules, tests, ap, map, subst, ◌≡◌, ◌∙◌, ◌++◌, OnOk}
use Rattle.std.proofs.lemmas.Iterator.Splits.{YieldsList-from_slice_split}
use Rattle.std.specs.List.{slice_split}
use Rattle.line_reader.specs.{Seen.name_seen, Words.is_line_end}
use Rattle.line_reader.proofs.Extended.{read_from_extend}
use Rattle.commands.proofs.text_rows.split_lines.Goals as goal

pub returns : goal.returns
returns c =
    subst (λ r. OnOk r (map name_seen c.extend.new.self.items ≡ slice_split is_line_end c.args.text.now)) c.in_ok-extend.was
    (read_from_extend c.extend.result c.extend.ensures.ran
    (YieldsList-from_slice_split _ is_line_end c.args.text.now c.split.ensures.rest c.split.ensures.done c.split.ensures.closure (λ x b q k. search (rules, tests)))
    (λ xs e held. ap (map name_seen) (held.0 ∙ ap (λ before. before ++ xs) c.new-lines.ensures.items) ∙ e))
