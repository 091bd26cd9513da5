-- Where the fault of a text is: the word that is wrong, and its place in its line.
use Rattle.std.specs.Prelude.{◌≡◌, ◌⊎◌, ℕ, zero, ◌+◌, ◌-◌, ◌≤◌, not, if◌then◌else◌, false, true, List, [], ◌∷◌, length, take, drop, Option, Some, None, option_map, is_some, IfSome, Ok, Err, slice_get}
use Rattle.std.specs.List.{before_first, position, slice_split}
use Rattle.instruction_table.specs.declared.shape.OperandKind.{OperandKind}
use Rattle.instruction_table.specs.declared.shape.OperandKind.TheVariants as kind
use Rattle.line_reader.specs.declared.{asm_fault.AsmFaultKind.AsmFaultKind, asm_fault.WordFault.WordFault, statement.Line.Line}
use Rattle.line_reader.specs.declared.reference.Reference.{Reference, TheVariants.Named, TheVariants.Numbered}
use Rattle.line_reader.specs.declared.symbolic_row.{Operand.Operand, SymbolicRow.SymbolicRow}
use Rattle.line_reader.specs.declared.{symbolic_phaser.SymbolicPolicy.SymbolicPolicy, statement.Statement.Statement}
use Rattle.line_reader.specs.Symbols.{Name}
use Rattle.line_reader.specs.Words.{begins_comment, is_allowed, is_blank, lines_of, words_in, words_of}
use Rattle.line_reader.specs.declared.asm_fault.AsmFaultKind.TheVariants as fault
use Rattle.line_reader.specs.declared.symbolic_row.Operand.TheVariants as operand
use Rattle.line_reader.specs.declared.symbolic_phaser.SymbolicPolicy.TheVariants as policy
use Rattle.line_reader.specs.declared.statement.Statement.TheVariants as statement
use Rattle.assembler.specs.{Meaning.is_known, Passes.first_unknown, Passes.lines_read, Reading.line_behind}
use Rattle.assembler.specs.{Statements.is_given, Statements.number_named, declared.placed.PlacedFault.PlacedFault}
use Rattle.assembler.specs.declared.{placed.UnknownName.UnknownName, word_place.WordPlace.WordPlace}

-- the place of a piece between blanks that begins here, before others; an empty piece is no word
abbrev pub with_piece : ℕ → ℕ → List WordPlace → List WordPlace
with_piece begin zero places = places
with_piece begin length places = record { at = begin; length = length } ∷ places

-- the places of the words among pieces, of which the first begins here, and a blank follows each
abbrev pub places_from : ℕ → List (List ℕ) → List WordPlace
places_from begin [] = []
places_from begin (piece ∷ pieces) =
    with_piece begin (length piece) (places_from (begin + (length piece + 1)) pieces)

-- the places of the words of a line without its comment
abbrev pub places_in : List ℕ → List WordPlace
places_in text = places_from 0 (slice_split is_blank text)

-- the word of this number, from 0, is at this place
abbrev pub IsWordAt : List ℕ → ℕ → WordPlace → Type 0
IsWordAt text number place =
    (place.at + place.length ≤ length text)
    × (slice_get (words_in text) number ≡ Some (take place.length (drop place.at text)))

abbrev pub byte_at : ℕ → WordPlace
byte_at place = record { at = place; length = 1 }

-- the place of a fault of this kind in its line, which has so many words, the first of those that are left being wrong: its
-- place, or that of the first byte that no line may have. A fault of no word has no place
abbrev pub place_by : AsmFaultKind → ℕ → List ℕ → ℕ → Option WordPlace
place_by fault.BadByte left line words = option_map byte_at (position (λ byte. not (is_allowed byte)) line)
place_by kind zero line words = None
place_by kind left line words = slice_get (places_in (before_first begins_comment line)) (words - left)

abbrev pub place_in : List ℕ → ℕ → WordFault → Option WordPlace
place_in line words wrong = place_by wrong.kind wrong.left line words

-- a fault that is found while the lines are read: the line of its number, read after those before it, has it at this place
abbrev pub IsPlacedWord : List ℕ → PlacedFault → Type 0
IsPlacedWord text e =
    (before : List (Line Name)) × (line : List ℕ) × (wrong : WordFault)
    × (lines_read 1 [] (take (e.fault.line - 1) (lines_of text)) ≡ Ok before)
    × (slice_get (lines_of text) (e.fault.line - 1) ≡ Some line)
    × (line_behind before line ≡ Err wrong)
    × (e.at ≡ place_in line (length (words_of line)) wrong)

-- the kind that is wanted, and the name, if nothing of this kind has the name
abbrev pub unknown_by : List (Line Name) → OperandKind → Reference Name → Option (OperandKind × Name)
unknown_by lines k (Numbered number) = None
unknown_by lines k (Named name) = if is_known lines k (Named name) then None else Some (k, name)

-- the first of two that is there
abbrev pub first_of : {A : Type 0} → Option A → Option A → Option A
first_of (Some x) other = Some x
first_of None other = other

abbrev pub unknown_if : List (Line Name) → OperandKind → Option (Reference Name) → Option (OperandKind × Name)
unknown_if lines k None = None
unknown_if lines k (Some reference) = unknown_by lines k reference

abbrev pub unknown_policy : List (Line Name) → SymbolicPolicy Name → Option (OperandKind × Name)
unknown_policy lines (policy.Routine row) = unknown_by lines kind.Target row
unknown_policy lines _ = None

abbrev pub unknown_operand : List (Line Name) → Operand Name → Option (OperandKind × Name)
unknown_operand lines (operand.Object k reference) = unknown_by lines k reference
unknown_operand lines _ = None

abbrev pub unknown_in_row : List (Line Name) → SymbolicRow Name → Option (OperandKind × Name)
unknown_in_row lines row =
    first_of (unknown_operand lines row.first) (first_of (unknown_operand lines row.second)
    (first_of (unknown_operand lines row.third) (unknown_operand lines row.fourth)))

-- the first name that a statement refers to and that isn't known, with the kind that is wanted
abbrev pub unknown_in : List (Line Name) → Statement Name → Option (OperandKind × Name)
unknown_in lines (statement.Phaser p) =
    first_of (unknown_if lines kind.Phaser p.parent) (unknown_policy lines p.policy)
unknown_in lines (statement.Barrier b) = unknown_if lines kind.Target b.action
unknown_in lines (statement.Thread t) = unknown_by lines kind.Target t.first_row
unknown_in lines (statement.Row label row) = unknown_in_row lines row
unknown_in lines _ = None

-- what has this name is of this kind, or nothing has it
abbrev pub IsKindNamed : List (Line Name) → Name → Option OperandKind → Type 0
IsKindNamed lines name None = is_given name lines ≡ false
IsKindNamed lines name (Some k) = is_some (number_named k name lines) ≡ true

-- which kind is wanted in place of which
abbrev pub IsSaidOf : List (Line Name) → Option (OperandKind × Name) → Option UnknownName → Type 0
IsSaidOf lines None None = Unit {0}
IsSaidOf lines (Some found) (Some said) = (said.wanted ≡ found.0) × IsKindNamed lines found.1 said.given
IsSaidOf lines _ _ = ⊥

-- this place in the text's line is that of a word that is this name
abbrev pub IsNameAt : List ℕ → ℕ → Option Name → WordPlace → Type 0
IsNameAt text line_number name place =
    (line : List ℕ) × (number : ℕ) × (slice_get (lines_of text) (line_number - 1) ≡ Some line)
    × IsWordAt (before_first begins_comment line) number place
    × (name ≡ slice_get (words_of line) number)

-- a fault of a line that refers to an unknown name: which name it is, and where
abbrev pub IsPlacedName : List (Line Name) → Line Name → List ℕ → PlacedFault → Type 0
IsPlacedName lines line text e =
    let found = unknown_in lines line.statement in
    IsSaidOf lines found e.unknown
    × IfSome e.at (IsNameAt text line.number (option_map (λ name. name.1) found))

-- the same of the first such line
abbrev pub IsUnknownPlaced : List (Line Name) → List ℕ → PlacedFault → Type 0
IsUnknownPlaced lines text e =
    (line : Line Name) × (first_unknown lines ≡ Some line) × IsPlacedName lines line text e

-- out of memory, which has no place
abbrev pub IsMemory : PlacedFault → Type 0
IsMemory e = (e.fault.kind ≡ fault.Memory) × (e.at ≡ None)

-- the fault of a text is where it says: at a word of its line, or at a name that isn't known; out of memory has no place
abbrev pub IsPlacedIn : List ℕ → PlacedFault → Type 0
IsPlacedIn text e =
    IsMemory e ⊎ (IsPlacedWord text e
    ⊎ ((lines : List (Line Name)) × (lines_read 1 [] (lines_of text) ≡ Ok lines) × IsUnknownPlaced lines text e))
