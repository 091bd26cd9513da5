-- What is said about a word of the language.
use Rattle.std.specs.Prelude.{◌≡◌, ◌≢◌, ◌⊎◌, ⊤, ℕ, List, [], ◌∷◌, ◌++◌, None, Some, if◌then◌else◌, bytes_eq, codes, map, slice_index_or, true}
use Rattle.std.specs.List.{flat_map}
use Rattle.instruction_table.specs.declared.shape.OperandKind.{OperandKind}
use Rattle.instruction_table.specs.declared.shape.OperandKind.TheVariants.{Register, Number, Target, Phaser, Barrier, Thread, Cell}
use Rattle.instruction_table.specs.Table.{Entry, entry_named, no_entry, table}
use Rattle.line_reader.specs.Reading.{is_directive}
use Rattle.refusals.specs.{declared.word.WordEntry.WordEntry, Entry.line}

-- what stands for an operand that isn't a register
abbrev pub letter : OperandKind → List ℕ
letter Register = codes "a"
letter Number = codes "n"
letter Target = codes "L"
letter Phaser = codes "P"
letter Barrier = codes "B"
letter Thread = codes "T"
letter Cell = codes "C"

-- operands, the registers called by these letters in turn
abbrev pub lettered : List OperandKind → List ℕ → List ℕ
lettered [] names = []
lettered (Register ∷ kinds) [] = []
lettered (Register ∷ kinds) (name ∷ names) = codes " " ++ (name ∷ lettered kinds names)
lettered (kind ∷ kinds) names = codes " " ++ (letter kind ++ lettered kinds names)

-- a row's word and its operands, as the documents write them: `pbulk a P b`
abbrev pub form_of : Entry → List ℕ
form_of row = row.word ++ lettered row.operands (codes "abc")

-- the words and the forms of entries, and those of rows
abbrev pub spellings : List WordEntry → List (List ℕ × List ℕ)
spellings entries = map (λ (e : WordEntry). (e.word.now, e.form.now)) entries

abbrev pub row_spellings : List Entry → List (List ℕ × List ℕ)
row_spellings rows = map (λ (row : Entry). (row.word, form_of row)) rows

-- the row of this opcode has this entry: its word and its form are those of the instruction table
abbrev pub IsRowEntry : ℕ → WordEntry → Type 0
IsRowEntry opcode e =
    (e.word.now ≡ (slice_index_or table opcode no_entry).word)
    × (e.form.now ≡ form_of (slice_index_or table opcode no_entry))

-- the entry is that of this word: of the row that it begins, by the instruction table, or its own if it begins none
abbrev pub IsItsRow : WordEntry → List ℕ → Type 0
IsItsRow e word =
    (row : Entry) × (entry_named table word ≡ Some row) × (e.word.now ≡ row.word) × (e.form.now ≡ form_of row)

abbrev pub IsItsWord : WordEntry → List ℕ → Type 0
IsItsWord e word = IsItsRow e word ⊎ ((entry_named table word ≡ None) × (e.word.now ≡ word))

-- neither a row nor a directive begins with this word
abbrev pub IsNoWord : List ℕ → Type 0
IsNoWord word = ((row : Entry) → entry_named table word ≢ Some row) × (is_directive word ≢ true)

-- the same for words, if there is exactly one
abbrev pub AreItsWord : WordEntry → List (List ℕ) → Type 0
AreItsWord e (word ∷ []) = IsItsWord e word
AreItsWord e _ = ⊥

abbrev pub AreNoWord : List (List ℕ) → Type 0
AreNoWord (word ∷ []) = IsNoWord word
AreNoWord _ = ⊤

-- where the documents say more about a word
abbrev pub more_of : List ℕ → List ℕ
more_of word =
    if bytes_eq word (codes ".run") then codes "docs/LANGUAGE.md, \"Program text\""
    else (if is_directive word then codes "docs/LANGUAGE.md, \"Directives\"" else codes "docs/LANGUAGE.md, \"Instruction table\"")

-- an entry as it is written: its lines, each with its label
abbrev pub word_text : WordEntry → List ℕ
word_text e =
    flat_map (λ (l : List ℕ × List ℕ). line l.0 l.1)
    ((codes "", e.form.now) ∷ (codes "  Operands: ", e.operands.now) ∷ (codes "  Java:     ", e.java.now)
    ∷ (codes "  Means:    ", e.means.now) ∷ (codes "  Event:    ", e.event.now) ∷ (codes "  More:     ", more_of e.word.now)
    ∷ (codes "  Example:  ", codes "a text with its schedule, for `vuthgal`") ∷ (codes "", e.example.now) ∷ [])
