-- What is kept beside the lines, with one line more.
use Rattle.std.proofs.Common.{◌≡◌, ◌∙◌, ℕ, ◌+◌, Bool, true, false, cond, ◌||◌, List, [], ◌∷◌, ◌++◌, Option, Some, None, is_some, bytes_eq, refl, sym, ap, arith, rules, append-nil}
use Rattle.std.proofs.lemmas.{Grind.flat_map-append, List.Folds.list_any-append, Slice.Eq.bytes_eq-Decides}
use Rattle.std.specs.List.{flat_map, list_any}
use Rattle.instruction_table.specs.declared.shape.OperandKind.{OperandKind}
use Rattle.assembler.specs.declared.{draft.Counts.Counts, draft.Place.Place, symbols.Symbol.Symbol}
use Rattle.assembler.specs.Statements.{name_in, kind_named, is_kind, is_named, gives, gives_to, adds, count, is_given, is_new, number_named, is_code}
use Rattle.assembler.specs.Symbols.{number_by, symbol_by, symbol_in, symbols_of}
use Rattle.assembler.specs.Draft.{counted, number_there, IsKept, named_with}
use Rattle.line_reader.specs.{declared.statement.Line.Line, declared.statement.Statement.Statement, Symbols.Name, Seen.Borrowed}
use Rattle.line_reader.proofs.Steps.{is_bytes, not_true}

-- the number found, or else this one
abbrev or_else : Option ℕ → Option ℕ → Option ℕ
or_else (Some n) other = Some n
or_else None other = other

pub count-append : (k : OperandKind) (lines : List (Line Name)) (line : Line Name) →
    count k (lines ++ (line ∷ [])) ≡ count k lines + adds k line.statement
count-append k [] line = omega arith
count-append k (l ∷ lines) line = grind (arith, count-append k lines line)

any-append : (test : Line Name → Bool) (lines : List (Line Name)) (line : Line Name) →
    list_any test (lines ++ (line ∷ [])) ≡ (list_any test lines || test line)
any-append test lines line = grind (arith, list_any-append)

-- the name of one more line
pub named-append : (k : OperandKind) (name : Name) (lines : List (Line Name)) (line : Line Name) →
    number_named k name (lines ++ (line ∷ []))
    ≡ or_else (number_named k name lines) (cond (gives_to k name line.statement) (Some (count k lines)) None)
named-append k name [] line = refl
named-append k name (l ∷ lines) line = grind (arith, named-append k name lines line)

either_false : (a b : Bool) → (a || b) ≡ false → (a ≡ false) × (b ≡ false)
either_false true b h = absurd (cc)
either_false false b h = (refl, h)

not_given_to : (a b : Bool) → b ≡ false → cond a b false ≡ false
not_given_to true b h = h
not_given_to false b h = refl

-- a name that no line gives names nothing
pub unnamed : (k : OperandKind) (name : Name) (lines : List (Line Name)) → is_given name lines ≡ false →
    number_named k name lines ≡ None
unnamed k name [] h = refl
unnamed k name (l ∷ lines) h =
    let both = either_false (gives name l.statement) (is_given name lines) h in
    rw (not_given_to (is_kind k (kind_named l.statement)) (gives name l.statement) both.0, unnamed k name lines both.1) refl

none_else : (o : Option ℕ) → or_else o None ≡ o
none_else o = grind arith

pub same_kind : (a b : OperandKind) → is_kind a b ≡ true → a ≡ b
same_kind a b h = grind arith

-- whether a name is given, with one name more
given_with : (given : Option Name) (place : Place) (names : Borrowed → Option Place) (q : Borrowed) →
    is_some (named_with given place names q) ≡ (is_some (names q) || is_named q.now given)
given_with given place names q = grind arith

module _ (k : OperandKind) (lines : List (Line Name)) (names : Borrowed → Option Place) (counts : Counts)
    (code : Bool) (order : List (Symbol Name)) (kept : IsKept lines names order counts code) (named : OperandKind) (q : Borrowed) where
  -- the number that a name has, where it is the new name or not
  abbrev number_now : Bool → Option ℕ
  number_now here = or_else (number_named k q.now lines)
      (cond (cond (is_kind k named) here false) (Some (count k lines)) None)

  not_here : (b : Bool) → number_there k (names q)
      ≡ or_else (number_named k q.now lines) (cond (cond b false false) (Some (count k lines)) None)
  not_here true = kept.named k q ∙ sym (none_else (number_named k q.now lines))
  not_here false = kept.named k q ∙ sym (none_else (number_named k q.now lines))

  right_kind : (b : Bool) → is_kind k named ≡ b →
      cond b (Some (counted counts named)) None ≡ cond (cond b true false) (Some (count k lines)) None
  right_kind true is =
      ap (λ n. Some n) (kept.number named ∙ ap (λ x. count x lines) (sym (same_kind k named is)))
  right_kind false is = refl

  here : is_given q.now lines ≡ false →
      cond (is_kind k named) (Some (counted counts named)) None ≡ number_now true
  here new =
      right_kind (is_kind k named) refl
      ∙ ap (λ o. or_else o (cond (cond (is_kind k named) true false) (Some (count k lines)) None))
      (sym (unnamed k q.now lines new))

  by_name : (b : Bool) → (b ≡ true → is_given q.now lines ≡ false) →
      number_there k (cond b (Some (record { kind = named; number = counted counts named })) (names q))
      ≡ number_now b
  by_name true new = here (new refl)
  by_name false new = not_here (is_kind k named)

  named_there : (given : Option Name) → is_new lines given ≡ true →
      number_there k (named_with given (record { kind = named; number = counted counts named }) names q)
      ≡ number_now (is_named q.now given)
  named_there None new = not_here (is_kind k named)
  named_there (Some name) new =
      by_name (bytes_eq name q.now)
      (λ same. ap (λ n. is_given n lines) (sym (is_bytes name q.now same)) ∙ not_true (is_given name lines) new)

-- a name names the same where another name stands behind the lines
named_before : (k : OperandKind) (name : Name) (lines : List (Line Name)) (line : Line Name) →
    gives name line.statement ≡ false → number_named k name (lines ++ (line ∷ [])) ≡ number_named k name lines
named_before k name lines line other = grind (arith, named-append, not_given_to, none_else)

gives_it : (s : Statement Name) (name : Name) → name_in s ≡ Some name → gives_to (kind_named s) name s ≡ true
gives_it s name is = grind (arith, bytes_eq-Decides)

-- where a name is new behind some lines, it is so behind those but the first
new_behind : (first : Line Name) (lines : List (Line Name)) (last : Option Name) → is_new (first ∷ lines) last ≡ true →
    is_new lines last ≡ true
new_behind first lines last new = grind (arith, either_false, not_true)

-- and isn't the first one's
other_name : (first : Line Name) (lines : List (Line Name)) (last : Option Name) → is_new (first ∷ lines) last ≡ true →
    (name : Name) → name_in first.statement ≡ Some name → is_named name last ≡ false
other_name first lines last new name is = search (rules, either_false, not_true, is_bytes)

-- a symbol, where the number of its name is this
symbol_as : (k : OperandKind) (all : List (Line Name)) (number : Option ℕ) (name : Option Name) →
    ((n : Name) → name ≡ Some n → number_named k n all ≡ number) →
    symbol_by k name (number_by all k name) ≡ symbol_by k name number
symbol_as k all number name same = grind arith

module _ (lines : List (Line Name)) (line : Line Name) where
  abbrev all : List (Line Name)
  all = lines ++ (line ∷ [])

  -- the names of lines stay what they are, where another stands behind them
  symbols_stay : (some : List (Line Name)) → is_new some (name_in line.statement) ≡ true →
      flat_map (λ l. symbol_in all l.statement) some ≡ flat_map (λ l. symbol_in lines l.statement) some
  symbols_stay [] new = refl
  symbols_stay (first ∷ some) new =
      let k = kind_named first.statement in
      let given = name_in first.statement in
      let here = symbol_as k all (number_by lines k given) given
      (λ n is. named_before k n lines line (other_name first some (name_in line.statement) new n is) ∙ sym (ap (number_by lines k) is)) in
      let rest = symbols_stay some (new_behind first some (name_in line.statement) new) in
      λ j. here j ++ rest j

  new_number : (name : Name) → name_in line.statement ≡ Some name → is_new lines (name_in line.statement) ≡ true →
      number_named (kind_named line.statement) name all ≡ Some (count (kind_named line.statement) lines)
  new_number name is new =
      let k = kind_named line.statement in
      let none = unnamed k name lines (not_true (is_given name lines) (sym (ap (is_new lines) is) ∙ new)) in
      let here = gives_it line.statement name is in
      named-append k name lines line ∙ (λ j. or_else (none j) (cond (here j) (Some (count k lines)) None))

  -- a name that is new comes last
  pub symbols_with : is_new lines (name_in line.statement) ≡ true → (symbols_of all).names ≡ (symbols_of lines).names
      ++ symbol_by (kind_named line.statement) (name_in line.statement) (Some (count (kind_named line.statement) lines))
  symbols_with new =
      let k = kind_named line.statement in
      let name = name_in line.statement in
      let last = symbol_as k all (Some (count k lines)) name (λ n is. new_number n is new) in
      flat_map-append (λ l. symbol_in all l.statement) lines (line ∷ [])
      ∙ (λ j. symbols_stay lines new j ++ append-nil (last j) j)

-- what is kept, of the lines with one more
pub kept_with : (lines : List (Line Name)) (names with : Borrowed → Option Place) (order ordered : List (Symbol Name))
    (counts counted_now : Counts) (code : Bool) (line : Line Name) (place : Place) → IsKept lines names order counts code →
    is_new lines (name_in line.statement) ≡ true →
    place ≡ record { kind = kind_named line.statement; number = counted counts (kind_named line.statement) } →
    ((q : Borrowed) → with q ≡ named_with (name_in line.statement) place names q) →
    ordered ≡ order ++ symbol_by place.kind (name_in line.statement) (Some place.number) →
    ((k : OperandKind) → counted counted_now k ≡ counted counts k + adds k line.statement) →
    IsKept (lines ++ (line ∷ [])) with ordered counted_now (code || is_code line.statement)
kept_with lines names with order ordered counts counted_now code line place kept new placed found last number = record {
  given = λ q.
      ap is_some (found q)
      ∙ given_with (name_in line.statement) place names q
      ∙ ap (λ b. b || gives q.now line.statement) (kept.given q)
      ∙ sym (any-append (λ l. gives q.now l.statement) lines line);
  named = λ k q.
      ap (number_there k) (found q)
      ∙ ap (λ p. number_there k (named_with (name_in line.statement) p names q)) placed
      ∙ named_there k lines names counts code order kept (kind_named line.statement) q (name_in line.statement) new
      ∙ sym (named-append k q.now lines line);
  in_order =
      let k = kind_named line.statement in
      last ∙ (λ j. kept.in_order j ++ symbol_by (placed j).kind (name_in line.statement) (Some (placed j).number))
      ∙ ap (λ n. (symbols_of lines).names ++ symbol_by k (name_in line.statement) (Some n)) (kept.number k)
      ∙ sym (symbols_with lines line new);
  number = λ k. number k ∙ ap (λ n. n + adds k line.statement) (kept.number k) ∙ sym (count-append k lines line);
  any_code = ap (λ b. b || is_code line.statement) kept.any_code ∙ sym (any-append (λ l. is_code l.statement) lines line);
}
