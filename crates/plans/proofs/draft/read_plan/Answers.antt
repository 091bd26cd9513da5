use Rattle.std.proofs.Common.{◌∙◌, ap, map, subst, sym}
use Rattle.std.specs.List.{slice_split}
use Rattle.row_code.specs.Answers.{◌>>=◌}
use Rattle.line_reader.specs.{Seen.name_seen, Words.is_line_end}
use Rattle.plans.specs.Plan.{AnswersPlan, finished, lines_behind}
use Rattle.plans.proofs.Nesting.{answer_is_plan}
use Rattle.plans.proofs.draft.read_plan.Goals as goal

pub returns-clause-nested : goal.returns-clause-nested
returns-clause-nested c =
    let names = map name_seen c.args.names.now in
    let lines = slice_split is_line_end c.args.text.now in
    answer_is_plan (λ words. words) names lines c.finished.result
    (subst (λ read. AnswersPlan (λ words. words) c.finished.result read)
    (sym (ap (λ r. r >>= finished) c.in_ok-add_lines.ensures)
    ∙ ap (λ words. lines_behind names 1 (record { words = words; depth = 0; opened = 0 }) lines >>= finished) c.new.ensures)
    c.finished.ensures.finished)
