use Rattle.std.proofs.Common.{◌≡◌, ◌∙◌, ◌∷◌, ◌++◌, [], Bool, None, Some, ap, bytes_eq, map, option_map, subst, sym, IfSome}
use Rattle.std.proofs.lemmas.List.{map-append}
use Rattle.indexmap.proofs.CallerLemmas.{insert_entry-new}
use Rattle.assembler.specs.{declared.name_hash.NameKey.NameKey, Draft.places, Draft.symbol_there, Symbols.symbol_by}
use Rattle.line_reader.specs.Seen.{name_seen}
use Rattle.assembler.proofs.draft.add_name.Goals as goal

-- a new name comes last
pub returns-in_ok-insert-clause-last : goal.returns-in_ok-insert-clause-last
returns-in_ok-insert-clause-last c =
    let names = c.args.names.now in
    let place = c.args.place in
    let key : NameKey = record { bytes = c.in-Some.name } in
    let eq : NameKey → NameKey → Bool = λ a b. bytes_eq a.bytes.now b.bytes.now in
    let none : places names key.bytes ≡ None = subst (λ name. IfSome name (λ n. places names n ≡ None)) c.in-Some.is c.requires in
    subst (λ name. map symbol_there c.insert.new.self.entries
    ≡ map symbol_there names.entries ++ symbol_by place.kind (option_map name_seen name) (Some place.number)) (sym c.in-Some.is)
    (ap (map symbol_there) (c.in_ok-insert.ensures.entries ∙ insert_entry-new eq names key place none)
    ∙ map-append symbol_there names.entries ((key, place) ∷ []))
