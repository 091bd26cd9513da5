use Rattle.std.proofs.Common.{◌∙◌, ap, map, [], ◌∷◌, ◌++◌, Some}
use Rattle.std.proofs.lemmas.List.{map-append}
use Rattle.assembler.specs.{KeptLine.line_kept, Statements.is_new, Statements.name_in, Symbols.symbol_by}
use Rattle.assembler.specs.Draft.{named_with, places, symbol_there}
use Rattle.assembler.proofs.Drafts.{kept_with}
use Rattle.assembler.proofs.draft.Draft.push.Goals as goal

pub invariant_of-self-2 : goal.invariant_of-self-2
invariant_of-self-2 c =
    let said = c.args.line in
    let line = line_kept said in
    let kept =
    kept_with (map line_kept c.self.inside.lines.items) (places c.self.inside.names) (places c.add_name.new.names)
    (map symbol_there c.self.inside.names.entries) (map symbol_there c.add_name.new.names.entries)
    c.self.inside.counts c.counted_with-counts.result c.self.inside.has_code line c.place_behind-place.result
    c.self.invariant
    (ap (λ lines. is_new lines (name_in line.statement)) c.self.view_is ∙ c.requires.name)
    c.place_behind-place.ensures
    (λ q. c.in_default.ensures.added q
    ∙ ap (λ name. named_with name c.place_behind-place.result (places c.self.inside.names) q) c.name-name.ensures)
    (c.in_default.ensures.last
    ∙ ap (λ name. map symbol_there c.self.inside.names.entries ++ symbol_by c.place_behind-place.result.kind name
    (Some c.place_behind-place.result.number)) c.name-name.ensures)
    c.counted_with-counts.ensures in
    rw (c.in_ok-push.ensures.items, map-append line_kept c.self.inside.lines.items (said ∷ []), c.code_with-has_code.ensures) kept
