-- The lines of rows as words, and what they say.
use Rattle.std.proofs.Common.{◌≡◌, ℕ, ◌<◌, ◌≤◌, ℤ, pos, negsuc, ◌≤ℤ◌, ◌<ℤ◌, FitsSigned, w32, Bool, true, ◌&&◌, nat_lt, List, [], ◌∷◌, length, Some, None, refl, ap, arith, rules, decimal, ltb-true}
use Rattle.std.proofs.lemmas.{Bool.and_parts, Fmt.decimal_digit, Int.ints}
use Rattle.std.specs.{Fmt.signed_decimal, List.list_all}
use Rattle.instruction_table.specs.declared.{register.Reg.Reg, row.Row.Row, row.Row.TheVariants.Halt}
use Rattle.instruction_table.specs.{declared.shape.OperandKind.OperandKind, Register.number_of}
use Rattle.instruction_table.specs.Table.{Entry, table, entry_named, entry_for}
use Rattle.instruction_table.specs.declared.shape.OperandKind.TheVariants as kind
use Rattle.row_code.specs.{RowFields.fields_of, RowFields.IsRow, RowOperands.register_at}
use Rattle.line_reader.specs.declared.{reference.Reference.TheVariants.Numbered, symbolic_row.Operand.Operand}
use Rattle.line_reader.specs.declared.{symbolic_row.SymbolicRow.SymbolicRow, statement.Line.Line, statement.Statement.Statement}
use Rattle.line_reader.specs.{Symbols.Name, Symbols.operands_in, Listing.joined, Listing.operand_words, Listing.row_words}
use Rattle.line_reader.specs.Spelling.{greatest_number, SpellsReference, SpellOperands, with_operands, Says}
use Rattle.line_reader.specs.declared.symbolic_row.Operand.TheVariants as operand
use Rattle.line_reader.specs.declared.statement.Statement.TheVariants as statement
use Rattle.assembler.specs.Meaning.{is_operand_known, row_of}
use Rattle.assembler.proofs.JoinedWords.{is_plain, IsWord, AreWords, words_of-line, is_line}
use Rattle.assembler.proofs.Decimals.{decimal_digits, marked_word, decimal_spells, int_spells, int_word}

-- the number of a row or an object
abbrev pub number_in : ℤ → ℕ
number_in (pos n) = n
number_in (negsuc n) = 0

-- what they say
abbrev pub operands_said : List OperandKind → List ℕ → ℤ → List (Operand Name)
operands_said [] registers imm = []
operands_said (kind.Register ∷ kinds) [] imm = []
operands_said (kind.Register ∷ kinds) (register ∷ registers) imm = operand.Register (register_at register) ∷ operands_said kinds registers imm
operands_said (kind.Number ∷ kinds) registers imm = operand.Number imm ∷ operands_said kinds registers imm
operands_said (k ∷ kinds) registers imm = operand.Object k (Numbered (number_in imm)) ∷ operands_said kinds registers imm

-- the number of a row or an object has two bytes
pub record IsNumbered (imm : ℤ) : Type 0 where
  pub least : pos 0 ≤ℤ imm
  pub greatest : imm <ℤ pos 65536

-- there is a register for each that is wanted, and imm fits the kind that it stands for
abbrev pub OperandsFit : List OperandKind → List ℕ → ℤ → Type 0
OperandsFit [] registers imm = Unit {0}
OperandsFit (kind.Register ∷ kinds) [] imm = ⊥
OperandsFit (kind.Register ∷ kinds) (register ∷ registers) imm = (number_of (register_at register) ≡ register) × OperandsFit kinds registers imm
OperandsFit (kind.Number ∷ kinds) registers imm = FitsSigned w32 imm × OperandsFit kinds registers imm
OperandsFit (_ ∷ kinds) registers imm = IsNumbered imm × OperandsFit kinds registers imm

-- ---- one operand

below_eight : (reg : Reg) → number_of reg < 8
below_eight reg = grind arith

register_word : (register : ℕ) → number_of (register_at register) ≡ register → IsWord (114 ∷ decimal register)
register_word register e =
    marked_word 114 register (decimal register) refl (decimal_digits register (omega (arith, below_eight (register_at register), e)))

number_is_word : (imm : ℤ) → FitsSigned w32 imm → IsWord (signed_decimal imm)
number_is_word imm h = int_word imm (omega (arith, ints, h.sfits)) (omega (arith, ints, h.sfits))

object_word : (imm : ℤ) → IsNumbered imm → IsWord (35 ∷ signed_decimal imm)
object_word (pos n) h = marked_word 35 n (decimal n) refl (decimal_digits n (omega (arith, ints, h.greatest)))
object_word (negsuc n) h = absurd (omega (arith, ints, h.least))

object_spelled : (imm : ℤ) → IsNumbered imm →
    SpellsReference greatest_number (35 ∷ signed_decimal imm) (Numbered (number_in imm))
object_spelled (pos n) h = (decimal n, refl, decimal_spells greatest_number n (omega (arith, ints, h.greatest)) (omega (arith, ints, h.greatest)))
object_spelled (negsuc n) h = absurd (omega (arith, ints, h.least))

-- ---- all operands

operands_are : (kinds : List OperandKind) (registers : List ℕ) (imm : ℤ) → OperandsFit kinds registers imm →
    AreWords (operand_words kinds registers imm)
operands_are [] registers imm h = tt
operands_are (kind.Register ∷ kinds) [] imm h = absurd h
operands_are (kind.Register ∷ kinds) (register ∷ registers) imm h = (register_word register h.0, operands_are kinds registers imm h.1)
operands_are (kind.Number ∷ kinds) registers imm h = (number_is_word imm h.0, operands_are kinds registers imm h.1)
operands_are (_ ∷ kinds) registers imm h = (object_word imm h.0, operands_are kinds registers imm h.1)

operands_few : (kinds : List OperandKind) (registers : List ℕ) (imm : ℤ) →
    length (operand_words kinds registers imm) ≤ length kinds
operands_few (kind.Register ∷ kinds) (register ∷ registers) imm = omega (arith, operands_few kinds registers imm)
operands_few (kind.Number ∷ kinds) registers imm = omega (arith, operands_few kinds registers imm)
operands_few (_ ∷ kinds) registers imm = omega (arith, operands_few kinds registers imm)
operands_few kinds registers imm = grind arith

operands_spelled : (kinds : List OperandKind) (registers : List ℕ) (imm : ℤ) → OperandsFit kinds registers imm →
    SpellOperands kinds (operand_words kinds registers imm) (operands_said kinds registers imm)
operands_spelled [] registers imm h = tt
operands_spelled (kind.Register ∷ kinds) [] imm h = absurd h
operands_spelled (kind.Register ∷ kinds) (register ∷ registers) imm h = grind (arith, decimal_digit, below_eight, operands_spelled kinds registers imm h.1)
operands_spelled (kind.Number ∷ kinds) registers imm h =
    ((refl, int_spells imm (omega (arith, ints, h.0.sfits)) (omega (arith, ints, h.0.sfits))), operands_spelled kinds registers imm h.1)
operands_spelled (_ ∷ kinds) registers imm h = ((refl, (tt, object_spelled imm h.0)), operands_spelled kinds registers imm h.1)

-- ---- rows

-- the words of a row behind its first
abbrev row_rest : Row → List (List ℕ)
row_rest row = let f = fields_of row in operand_words (entry_for row).operands (f.a ∷ f.b ∷ f.c ∷ []) f.imm

abbrev pub symbolic : Row → SymbolicRow Name
symbolic row =
    let f = fields_of row in
    with_operands (entry_for row).opcode (operands_said (entry_for row).operands (f.a ∷ f.b ∷ f.c ∷ []) f.imm)

abbrev pub row_said : Row → Statement Name
row_said row = statement.Row None (symbolic row)

-- ---- the table

-- tests that each entry passes
abbrev is_short_word : List ℕ → Bool
is_short_word word = nat_lt 0 (length word) && (nat_lt (length word) 13 && list_all is_plain word)

record IsEntry (e : Entry) : Type 0 where
  word : is_short_word e.word ≡ true
  few : nat_lt (length e.operands) 5 ≡ true
  found : entry_named table e.word ≡ Some e

is_entry : (row : Row) → IsEntry (entry_for row)
is_entry row = grind arith

entry_word : (e : Entry) → IsEntry e → IsWord e.word
entry_word e h = search (rules, and_parts, is_plain)

-- ---- what each row says

register_back : (reg : Reg) → register_at (number_of reg) ≡ reg
register_back reg = grind arith

number_back : (reg : Reg) → number_of (register_at (number_of reg)) ≡ number_of reg
number_back reg = ap number_of (register_back reg)

number_fits : (n : ℕ) → pos n <ℤ pos 65536 → IsNumbered (pos n)
number_fits n h = record { least = omega (arith, ints); greatest = h }

ruleset operand_facts = (number_back, number_fits)

-- each operand refers to something by its number
pub row_known : (lines : List (Line Name)) (row : Row) →
    list_all (is_operand_known lines) (operands_in (symbolic row)) ≡ true
row_known lines row = grind arith

-- what is said of a row is that row
pub row_back : (lines : List (Line Name)) (row : Row) → row_of lines (symbolic row) ≡ row
row_back lines row = grind (arith, register_back)

row_fits : (row : Row) → IsRow row →
    OperandsFit (entry_for row).operands ((fields_of row).a ∷ (fields_of row).b ∷ (fields_of row).c ∷ []) (fields_of row).imm
row_fits Halt h = tt
row_fits row h = search (operand_facts, h)

pub row_says : (row : Row) → IsRow row → Says (joined (row_words row)) (row_said row)
row_says row h =
    let f = fields_of row in
    let e = entry_for row in
    let registers = f.a ∷ f.b ∷ f.c ∷ [] in
    let is = is_entry row in
    let word = entry_word e is in
    let fits = row_fits row h in
    let words = operands_are e.operands registers f.imm fits in
    let few = ltb-true (length e.operands) 5 is.few in (
      is_line e.word (row_rest row) word words (omega (arith, few, operands_few e.operands registers f.imm)),
      (
        e,
        e.word,
        row_rest row,
        operands_said e.operands registers f.imm,
        words_of-line e.word (row_rest row) word words,
        is.found,
        refl,
        operands_spelled e.operands registers f.imm fits,
      ),
    )
