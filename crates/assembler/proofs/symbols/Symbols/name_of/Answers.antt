use Rattle.std.proofs.Common.{◌≡◌, ◌∙◌, ◌∷◌, [], Bool, List, None, Option, Some, add-one, ap, cond, drop, option_map, refl, slice_get, suc, sym, zero, ℕ, find}
use Rattle.assembler.specs.Symbols.{is_symbol_of, symbol_name, symbol_seen}
use Rattle.assembler.proofs.symbols.Symbols.name_of.Goals as goal
use Rattle.assembler.proofs.symbols.Symbols.name_of.Goals.{in-Some+else-is_symbol_of, in_default}

-- the search from a place on, by what stands there
abbrev found_from : {X : Type 0} → (X → Bool) → Option X → Option X → Option X
found_from test None behind = behind
found_from test (Some x) behind = cond (test x) (Some x) behind

from_place : {X : Type 0} (test : X → Bool) (xs : List X) (i : ℕ) →
    find test (drop i xs) ≡ found_from test (slice_get xs i) (find test (drop (suc i) xs))
from_place test [] zero = refl
from_place test [] (suc i) = refl
from_place test (x ∷ xs) zero = refl
from_place test (x ∷ xs) (suc i) = from_place test xs i

pub returns-then-is_symbol_of : goal.returns-then-is_symbol_of
returns-then-is_symbol_of c =
    let test = is_symbol_of c.args.kind c.args.number in
    let names = c.args.self.now.names in
    let behind = find test (drop (suc c.loop-index.index) names) in
    let found = sym c.loop-index.invariant ∙ from_place test names c.loop-index.index
    ∙ ap (λ o. found_from test o behind) (sym c.get.ensures ∙ ap (option_map symbol_seen) c.in-Some.is)
    ∙ ap (λ b. cond b (Some (symbol_seen c.in-Some.symbol)) behind) (sym c.is_symbol_of.ensures ∙ c.if-is_symbol_of.true) in
    sym (ap (option_map symbol_name) found)

pub loop-index-preserved : goal.loop-index-preserved
loop-index-preserved c =
    let test = is_symbol_of c.args.kind c.args.number in
    let names = c.args.self.now.names in
    let behind = find test (drop (suc c.loop-index.index) names) in
    let here = from_place test names c.loop-index.index ∙ ap (λ o. found_from test o behind) (sym c.get.ensures) in
    let none : found_from test (option_map symbol_seen c.get.result) behind ≡ behind = elim c.match-get.branch [
      | in-Some+else-is_symbol_of w ↦
          ap (λ o. found_from test (option_map symbol_seen o) behind) w.in-Some.is
          ∙ ap (λ b. cond b (Some (symbol_seen w.in-Some.symbol)) behind) (sym w.is_symbol_of.ensures ∙ w.if-is_symbol_of.false)
      | in_default w ↦ ap (λ o. found_from test (option_map symbol_seen o) behind) w.in_default.is
    ] in
    ap (λ i. find test (drop i names)) (add-one c.loop-index.index) ∙ sym none ∙ sym here ∙ c.loop-index.invariant
