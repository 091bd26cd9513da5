-- What the assembler stores of the lines read so far, besides the lines. Only proofs use this: no promise depends on it.
use Rattle.std.specs.Prelude.{◌≡◌, ℕ, if◌then◌else◌, Bool, bytes_eq, List, Option, Some, None, is_some}
use Rattle.indexmap.specs.IndexMap.{IndexMap, get}
use Rattle.instruction_table.specs.declared.shape.OperandKind.{OperandKind}
use Rattle.instruction_table.specs.declared.shape.OperandKind.TheVariants as kind
use Rattle.assembler.specs.declared.{draft.Counts.Counts, draft.Place.Place, name_hash.NameKey.NameKey, symbols.Symbol.Symbol}
use Rattle.assembler.specs.Symbols.{symbols_of}
use Rattle.assembler.specs.Statements.{is_kind, count, is_given, number_named, has_code}
use Rattle.line_reader.specs.{declared.statement.Line.Line, Symbols.Name, Seen.Borrowed}

-- how many things of a kind were counted
abbrev pub counted : Counts → OperandKind → ℕ
counted counts kind.Target = counts.rows
counted counts kind.Phaser = counts.phasers
counted counts kind.Barrier = counts.barriers
counted counts kind.Thread = counts.threads
counted counts kind.Cell = counts.cells
counted counts _ = 0

-- the number at a place that was looked up, if it is of this kind
abbrev pub number_there : OperandKind → Option Place → Option ℕ
number_there k None = None
number_there k (Some place) = if is_kind k place.kind then Some place.number else None

-- what a map has at each name
abbrev pub places : {S : Type 0} → IndexMap NameKey Place S → Borrowed → Option Place
places names name =
    get (λ a b. bytes_eq a.bytes.now b.bytes.now) names (record { bytes = name })

-- an entry of the map as a symbol
abbrev pub symbol_there : NameKey × Place → Symbol Name
symbol_there entry =
    record { kind = entry.1.kind; number = entry.1.number; name = entry.0.bytes.now }

-- names by what they name and in their order, counts and whether there is code are those of the lines
pub record IsKept (lines : List (Line Name)) (names : Borrowed → Option Place)
    (order : List (Symbol Name)) (counts : Counts) (code : Bool) : Type 0 where
  pub given : (name : Borrowed) → is_some (names name) ≡ is_given name.now lines
  pub named : (k : OperandKind) → (name : Borrowed) →
      number_there k (names name) ≡ number_named k name.now lines
  pub in_order : order ≡ (symbols_of lines).names
  pub number : (k : OperandKind) → counted counts k ≡ count k lines
  pub any_code : code ≡ has_code lines

-- places by name, and one more if there is a name
abbrev pub named_with : Option Name → Place → (Borrowed → Option Place) → Borrowed → Option Place
named_with None place names name = names name
named_with (Some given) place names name =
    if bytes_eq given name.now then Some place else names name
