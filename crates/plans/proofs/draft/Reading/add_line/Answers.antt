use Rattle.std.proofs.Common.{◌∙◌, ap, map, subst, sym}
use Rattle.row_code.specs.Answers.{FailsUnless}
use Rattle.line_reader.specs.{Seen.name_seen, Words.words_in}
use Rattle.plans.specs.{Drafts.draft_of, Plan.is_memory, Plan.word_behind, Plan.words_behind, Words.spread}
use Rattle.plans.proofs.Behind.{next_word, faulty_word}
use Rattle.plans.proofs.draft.Reading.add_line.Goals as goal

pub loop-rest-preserved : goal.loop-rest-preserved
loop-rest-preserved c =
    let names = map name_seen c.args.names.now in
    let said = ap (word_behind names c.args.line (draft_of c.loop-rest.self)) (sym c.before-else-length-eq0.ensures) ∙ c.in-Ok.ensures in
    ap (λ rest. words_behind names c.args.line (draft_of c.add_word.new.self) (words_in (spread rest))) c.from-rest-in-Ok.ensures
    ∙ next_word names c.args.line c.loop-rest.rest.now c.word_length-length.result (draft_of c.loop-rest.self)
    (draft_of c.add_word.new.self) _ c.if-length-eq0.false c.word_length-length.ensures.within c.word_length-length.ensures.word
    c.loop-rest.invariant said

pub returns-in-Err : goal.returns-in-Err
returns-in-Err c =
    let names = map name_seen c.args.names.now in
    let memory = is_memory c.in-Err.fault.kind in
    faulty_word names c.args.line c.loop-rest.rest.now c.word_length-length.result (draft_of c.loop-rest.self) _ memory c.in-Err.fault
    c.if-length-eq0.false c.word_length-length.ensures.within c.word_length-length.ensures.word c.loop-rest.invariant
    (subst (λ word. FailsUnless memory c.in-Err.fault (word_behind names c.args.line (draft_of c.loop-rest.self) word))
    c.before-else-length-eq0.ensures c.in-Err.ensures)
