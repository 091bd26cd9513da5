-- What the words of a line mean: nothing, a directive, a label, a row, or a label and a row.
use Rattle.std.specs.Prelude.{◌≡◌, ◌⊎◌, ℕ, ◌+◌, ◌≤◌, true, ℤ, pos, negsuc, ◌≤ℤ◌, List, [], ◌∷◌, ◌++◌, length, codes, slice_index_or, Option, Some, None}
use Rattle.std.specs.List.{list_all}
use Rattle.instruction_table.specs.{declared.register.Reg.Reg, declared.shape.OperandKind.OperandKind, Register.number_of}
use Rattle.instruction_table.specs.Table.{Entry, table, entry_named}
use Rattle.instruction_table.specs.declared.shape.OperandKind.TheVariants as kind
use Rattle.line_reader.specs.declared.reference.Reference.{Reference, TheVariants.Named, TheVariants.Numbered}
use Rattle.line_reader.specs.declared.symbolic_row.{Operand.Operand, SymbolicRow.SymbolicRow}
use Rattle.line_reader.specs.declared.{symbolic_phaser.SymbolicPolicy.SymbolicPolicy, statement.Statement.Statement}
use Rattle.line_reader.specs.{Words.is_allowed, Words.words_of, Names.is_name, Symbols.Name}
use Rattle.line_reader.specs.Numbers.{is_number, digits_in, value_in}
use Rattle.line_reader.specs.declared.symbolic_row.Operand.TheVariants as operand
use Rattle.line_reader.specs.declared.symbolic_phaser.SymbolicPolicy.TheVariants as policy
use Rattle.line_reader.specs.declared.statement.Statement.TheVariants as statement

-- the least and the greatest `int`, and the greatest number of a target or an object
abbrev pub least_int : ℤ
least_int = negsuc 2147483647

abbrev pub greatest_int : ℤ
greatest_int = pos 2147483647

abbrev pub greatest_number : ℕ
greatest_number = 65535

-- a word spells a number from low to high, in at most ten digits
pub record SpellsNumber (low : ℤ) (high : ℤ) (word : List ℕ) (number : ℤ) : Type 0 where
  pub spelled : is_number word ≡ true
  pub short : length (digits_in word) ≤ 10
  pub value : value_in word ≡ number
  pub least : low ≤ℤ number
  pub greatest : number ≤ℤ high

-- a name stands for itself, and `#` precedes a number from 0 to a maximum
abbrev pub SpellsReference : ℕ → List ℕ → Reference Name → Type 0
SpellsReference high word (Named name) = (word ≡ name) × (is_name name ≡ true)
SpellsReference high word (Numbered n) =
    (number : List ℕ) × (word ≡ 35 ∷ number) × SpellsNumber (pos 0) (pos high) number (pos n)

-- `r` and the register's digit
abbrev pub register_word : Reg → List ℕ
register_word reg = 114 ∷ (48 + number_of reg) ∷ []

-- which kinds of operand are rows or objects
abbrev pub IsObject : OperandKind → Type 0
IsObject kind.Register = ⊥
IsObject kind.Number = ⊥
IsObject _ = Unit {0}

-- a word spells an operand of a kind
abbrev pub SpellsOperand : OperandKind → List ℕ → Operand Name → Type 0
SpellsOperand k word operand.Absent = ⊥
SpellsOperand k word (operand.Register reg) = (k ≡ kind.Register) × (word ≡ register_word reg)
SpellsOperand k word (operand.Number value) =
    (k ≡ kind.Number) × SpellsNumber least_int greatest_int word value
SpellsOperand k word (operand.Object object reference) =
    (k ≡ object) × (IsObject object × SpellsReference greatest_number word reference)

-- the words spell operands of these kinds, one each
abbrev pub SpellOperands : List OperandKind → List (List ℕ) → List (Operand Name) → Type 0
SpellOperands [] [] [] = Unit {0}
SpellOperands (k ∷ kinds) (word ∷ words) (operand ∷ operands) =
    SpellsOperand k word operand × SpellOperands kinds words operands
SpellOperands _ _ _ = ⊥

-- an operand by its place; there are no more than four
abbrev pub operand_in : List (Operand Name) → ℕ → Operand Name
operand_in operands place = slice_index_or operands place operand.Absent

-- a row of an opcode with up to four operands
abbrev pub with_operands : ℕ → List (Operand Name) → SymbolicRow Name
with_operands opcode operands = record {
  opcode = opcode;
  first = operand_in operands 0;
  second = operand_in operands 1;
  third = operand_in operands 2;
  fourth = operand_in operands 3;
}

-- a word of the instruction table, and the operands that its entry asks for
abbrev pub SpellRow : List (List ℕ) → SymbolicRow Name → Type 0
SpellRow words row =
    (entry : Entry) × (word : List ℕ) × (rest : List (List ℕ)) × (operands : List (Operand Name))
    × (words ≡ word ∷ rest) × (entry_named table word ≡ Some entry)
    × (row ≡ with_operands entry.opcode operands)
    × SpellOperands entry.operands rest operands

-- an option's word and its argument
abbrev pub SpellArgument : {A : Type 0} → List ℕ → (List ℕ → A → Type 0) → List (List ℕ) → A → Type 0
SpellArgument option Spells words x =
    (word : List ℕ) × (words ≡ option ∷ word ∷ []) × Spells word x

-- an option with a row or an object, or nothing
abbrev pub SpellReference : List ℕ → ℕ → List (List ℕ) → Option (Reference Name) → Type 0
SpellReference option high words None = words ≡ []
SpellReference option high words (Some reference) =
    SpellArgument option (SpellsReference high) words reference

-- `phase` and a number that isn't negative, or nothing for phase 0
abbrev pub SpellFirstPhase : List (List ℕ) → ℤ → Type 0
SpellFirstPhase words phase =
    ((words ≡ []) × (phase ≡ pos 0))
    ⊎ SpellArgument (codes "phase") (SpellsNumber (pos 0) greatest_int) words phase

-- `never`, or `until` and a phase, or `onadvance` and a routine's row, or nothing
abbrev pub SpellPolicy : List (List ℕ) → SymbolicPolicy Name → Type 0
SpellPolicy words policy.Default = words ≡ []
SpellPolicy words policy.Never = words ≡ codes "never" ∷ []
SpellPolicy words (policy.Until phase) =
    SpellArgument (codes "until") (SpellsNumber (pos 0) greatest_int) words phase
SpellPolicy words (policy.Routine row) =
    SpellArgument (codes "onadvance") (SpellsReference greatest_number) words row

-- a name and a colon
abbrev pub SpellsLabel : List ℕ → Name → Type 0
SpellsLabel word name = (word ≡ name ++ codes ":") × (is_name name ≡ true)

-- a number of parties
abbrev pub SpellsParties : List ℕ → ℕ → Type 0
SpellsParties word parties = SpellsNumber (pos 0) (pos 65535) word (pos parties)

-- what the words of a line say
abbrev pub Spell : List (List ℕ) → Statement Name → Type 0
Spell words (statement.Phaser p) =
    (parties : List ℕ) × (parent : List (List ℕ)) × (phase : List (List ℕ))
    × (policy : List (List ℕ))
    × (words ≡ codes ".phaser" ∷ p.name ∷ parties ∷ (parent ++ (phase ++ policy)))
    × (is_name p.name ≡ true) × SpellsParties parties p.parties
    × SpellReference (codes "parent") 63 parent p.parent
    × SpellFirstPhase phase p.first_phase × SpellPolicy policy p.policy
Spell words (statement.Barrier b) =
    (parties : List ℕ) × (action : List (List ℕ))
    × (words ≡ codes ".barrier" ∷ b.name ∷ parties ∷ action)
    × (is_name b.name ≡ true) × SpellsParties parties b.parties
    × SpellReference (codes "action") greatest_number action b.action
Spell words (statement.Thread t) =
    (row : List ℕ) × (words ≡ codes ".thread" ∷ t.name ∷ row ∷ [])
    × (is_name t.name ≡ true) × SpellsReference greatest_number row t.first_row
Spell words (statement.Cell name) = (words ≡ codes ".cell" ∷ name ∷ []) × (is_name name ≡ true)
Spell words (statement.Label name) =
    (label : List ℕ) × (words ≡ label ∷ []) × SpellsLabel label name
Spell words (statement.Row None row) = SpellRow words row
Spell words (statement.Row (Some name) row) =
    (label : List ℕ) × (rest : List (List ℕ)) × (words ≡ label ∷ rest)
    × SpellsLabel label name × SpellRow rest row

-- a line of allowed bytes, at most 256 of them, its comment among them
pub record IsLine (line : List ℕ) : Type 0 where
  pub allowed : list_all is_allowed line ≡ true
  pub short : length line ≤ 256

-- a line says this
abbrev pub Says : List ℕ → Statement Name → Type 0
Says line statement = IsLine line × Spell (words_of line) statement

-- a line of no words says nothing
abbrev pub SaysNothing : List ℕ → Type 0
SaysNothing line = IsLine line × (words_of line ≡ [])
