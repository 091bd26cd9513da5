-- How the words of a line are read, and which fault they have. The checks are made in the order in which they are written
-- here. The first check that fails gives the fault. A fault of several words also says which of them is wrong: it counts the
-- words that are left in the line from this one on.
use Rattle.std.specs.Prelude.{ℕ, ◌+◌, ◌-◌, min, ◌==◌, ◌||◌, not, nat_lt, int_lt, if◌then◌else◌, Bool, true, false, ℤ, pos, negsuc, List, [], ◌∷◌, length, take, codes, bytes_eq, find, Option, Some, None, Result, Ok, Err}
use Rattle.std.specs.List.{list_all, slice_get}
use Rattle.instruction_table.specs.declared.{register.Reg.Reg, shape.OperandKind.OperandKind}
use Rattle.instruction_table.specs.declared.register.Reg.TheVariants.{R0, R1, R2, R3, R4, R5, R6, R7}
use Rattle.instruction_table.specs.Table.{table, entry_named}
use Rattle.instruction_table.specs.declared.shape.OperandKind.TheVariants as kind
use Rattle.row_code.specs.Answers.{◌>>=◌}
use Rattle.line_reader.specs.declared.asm_fault.{AsmFaultKind.AsmFaultKind, WordFault.WordFault}
use Rattle.line_reader.specs.declared.reference.Reference.{Reference, TheVariants.Named, TheVariants.Numbered}
use Rattle.line_reader.specs.declared.symbolic_row.{Operand.Operand, SymbolicRow.SymbolicRow}
use Rattle.line_reader.specs.declared.symbolic_phaser.{SymbolicPolicy.SymbolicPolicy, SymbolicPhaser.SymbolicPhaser}
use Rattle.line_reader.specs.declared.{symbolic_barrier.SymbolicBarrier.SymbolicBarrier, statement.Statement.Statement}
use Rattle.line_reader.specs.{declared.symbolic_thread.SymbolicThread.SymbolicThread, Names.is_name, Symbols.Name}
use Rattle.line_reader.specs.{Words.is_allowed, Words.words_of, Numbers.is_number, Numbers.digits_in, Numbers.value_in}
use Rattle.line_reader.specs.Spelling.{least_int, greatest_int, greatest_number, register_word}
use Rattle.line_reader.specs.declared.asm_fault.AsmFaultKind.TheVariants as fault
use Rattle.line_reader.specs.declared.symbolic_row.Operand.TheVariants as operand
use Rattle.line_reader.specs.declared.symbolic_phaser.SymbolicPolicy.TheVariants as policy
use Rattle.line_reader.specs.declared.statement.Statement.TheVariants as statement

-- nothing if a check succeeds, and otherwise its fault
abbrev pub check : {E : Type 0} → Bool → E → Result (Unit {0}) E
check true wrong = Ok tt
check false wrong = Err wrong

-- a fault of the word from which on so many words are left; a line has at most 128
abbrev pub fault_at : ℕ → AsmFaultKind → WordFault
fault_at left kind = record { kind = kind; left = min left 255 }

-- what is read of that word
abbrev pub read_at : {A : Type 0} → ℕ → Result A AsmFaultKind → Result A WordFault
read_at left (Ok x) = Ok x
read_at left (Err kind) = Err (fault_at left kind)

-- the words of a line; before them its bytes are checked, those of its comment too, and then its length
unfoldable pub line_words : List ℕ → Result (List (List ℕ)) AsmFaultKind
line_words line = do
  allowed ← check (list_all is_allowed line) fault.BadByte
  short ← check (not (nat_lt 256 (length line))) fault.LongLine
  Ok (words_of line)

-- a name
unfoldable pub name_at : List ℕ → Result Name AsmFaultKind
name_at word = if is_name word then Ok word else Err fault.BadName

-- a number from low to high: more than ten digits are out of range, whatever they spell
unfoldable pub number_at : ℤ → ℤ → List ℕ → Result ℤ AsmFaultKind
number_at low high word =
    if not (is_number word) then Err fault.BadNumber
    else (if nat_lt 10 (length (digits_in word)) then Err fault.OutOfRange
    else (if int_lt (value_in word) low || int_lt high (value_in word) then Err fault.OutOfRange
    else Ok (value_in word)))

-- a number that isn't negative, as a count
abbrev pub count_of : ℤ → ℕ
count_of (pos n) = n
count_of (negsuc n) = 0

-- a number from 0 to high
unfoldable pub count_at : ℕ → List ℕ → Result ℕ AsmFaultKind
count_at high word = number_at (pos 0) (pos high) word >>= (λ value. Ok (count_of value))

-- a number after `#`, or a name
unfoldable pub reference_at : ℕ → List ℕ → Result (Reference Name) AsmFaultKind
reference_at high [] = Err fault.BadName
reference_at high (byte ∷ bytes) =
    if byte == 35 then count_at high bytes >>= (λ n. Ok (Numbered n))
    else name_at (byte ∷ bytes) >>= (λ name. Ok (Named name))

-- the eight registers
abbrev pub registers : List Reg
registers = R0 ∷ R1 ∷ R2 ∷ R3 ∷ R4 ∷ R5 ∷ R6 ∷ R7 ∷ []

-- what was found
abbrev pub found_or : {A E : Type 0} → E → Option A → Result A E
found_or wrong (Some x) = Ok x
found_or wrong None = Err wrong

-- the register that is spelled so
unfoldable pub register_at : List ℕ → Result Reg AsmFaultKind
register_at word =
    found_or fault.BadRegister (find (λ reg. bytes_eq word (register_word reg)) registers)

-- an operand of a kind
unfoldable pub operand_at : OperandKind → List ℕ → Result (Operand Name) AsmFaultKind
operand_at kind.Register word = register_at word >>= (λ reg. Ok (operand.Register reg))
operand_at kind.Number word =
    number_at least_int greatest_int word >>= (λ value. Ok (operand.Number value))
operand_at k word =
    reference_at greatest_number word >>= (λ reference. Ok (operand.Object k reference))

-- the operand at a place, if there is a kind and a word for it
abbrev pub operand_or_absent : ℕ → Option OperandKind → Option (List ℕ) →
    Result (Operand Name) WordFault
operand_or_absent left (Some k) (Some word) = read_at left (operand_at k word)
operand_or_absent left _ _ = Ok operand.Absent

abbrev pub operand_there : List OperandKind → List (List ℕ) → ℕ →
    Result (Operand Name) WordFault
operand_there kinds words place =
    operand_or_absent (length words - place) (slice_get kinds place) (slice_get words place)

-- a row of an opcode, with operands of these kinds, from left to right; that there are as many words
-- as kinds was checked before
unfoldable pub row_of_kinds : ℕ → List OperandKind → List (List ℕ) →
    Result (SymbolicRow Name) WordFault
row_of_kinds opcode kinds words = do
  first ← operand_there kinds words 0
  second ← operand_there kinds words 1
  third ← operand_there kinds words 2
  fourth ← operand_there kinds words 3
  Ok (record {
    opcode = opcode;
    first = first;
    second = second;
    third = third;
    fourth = fourth;
  })

-- a row from its word and its operands: if there are too few or too many, its word is wrong
unfoldable pub row_at : List ℕ → List (List ℕ) → Result (SymbolicRow Name) WordFault
row_at word words = do
  entry ← found_or (fault_at (length words + 1) fault.UnknownWord) (entry_named table word)
  counted ← check (length words == length entry.operands) (fault_at (length words + 1) fault.OperandCount)
  row_of_kinds entry.opcode entry.operands words

-- an option of a directive: its argument is the next word, whatever it is; the words after it are still to be read. If there
-- is none, the option is wrong, which is the last word
abbrev pub argument_at : {A : Type 0} → (List ℕ → Result A AsmFaultKind) → List (List ℕ) →
    Result (A × List (List ℕ)) WordFault
argument_at read [] = Err (fault_at 1 fault.OperandCount)
argument_at read (word ∷ rest) = read_at (length rest + 1) (read word) >>= (λ x. Ok (x, rest))

-- an option with a row or an object as its argument, if it comes next
unfoldable pub reference_option_at : List ℕ → ℕ → List (List ℕ) →
    Result (Option (Reference Name) × List (List ℕ)) WordFault
reference_option_at option high [] = Ok (None, [])
reference_option_at option high (word ∷ rest) =
    if bytes_eq word option
    then argument_at (reference_at high) rest >>= (λ x. Ok (Some x.0, x.1))
    else Ok (None, word ∷ rest)

unfoldable pub first_phase_at : List (List ℕ) → Result (ℤ × List (List ℕ)) WordFault
first_phase_at [] = Ok (pos 0, [])
first_phase_at (word ∷ rest) =
    if bytes_eq word (codes "phase") then argument_at (number_at (pos 0) greatest_int) rest
    else Ok (pos 0, word ∷ rest)

unfoldable pub policy_at : List (List ℕ) →
    Result (SymbolicPolicy Name × List (List ℕ)) WordFault
policy_at [] = Ok (policy.Default, [])
policy_at (word ∷ rest) =
    if bytes_eq word (codes "never") then Ok (policy.Never, rest)
    else (if bytes_eq word (codes "until")
    then argument_at (number_at (pos 0) greatest_int) rest >>= (λ x. Ok (policy.Until x.0, x.1))
    else (if bytes_eq word (codes "onadvance")
    then argument_at (reference_at greatest_number) rest >>= (λ x. Ok (policy.Routine x.0, x.1))
    else Ok (policy.Default, word ∷ rest)))

-- no word is left; any other word isn't allowed here
abbrev pub end_at : List (List ℕ) → Result (Unit {0}) WordFault
end_at [] = Ok tt
end_at (word ∷ rest) = Err (fault_at (length rest + 1) fault.BadOption)

-- a phaser with its name, its parties and the words after them
abbrev pub phaser_with : Name → ℕ → List (List ℕ) → Result (SymbolicPhaser Name) WordFault
phaser_with name parties options = do
  parent ← reference_option_at (codes "parent") 63 options
  phase ← first_phase_at parent.1
  policy ← policy_at phase.1
  end ← end_at policy.1
  Ok (record {
    name = name;
    parties = parties;
    parent = parent.0;
    first_phase = phase.0;
    policy = policy.0;
  })

-- the operands of each directive: if there are too few or too many, its own word is wrong
unfoldable pub phaser_at : List (List ℕ) → Result (SymbolicPhaser Name) WordFault
phaser_at (name ∷ parties ∷ options) = do
  name ← read_at (length options + 2) (name_at name)
  parties ← read_at (length options + 1) (count_at 65535 parties)
  phaser_with name parties options
phaser_at words = Err (fault_at (length words + 1) fault.OperandCount)

unfoldable pub barrier_at : List (List ℕ) → Result (SymbolicBarrier Name) WordFault
barrier_at (name ∷ parties ∷ options) = do
  name ← read_at (length options + 2) (name_at name)
  parties ← read_at (length options + 1) (count_at 65535 parties)
  action ← reference_option_at (codes "action") greatest_number options
  end ← end_at action.1
  Ok (record { name = name; parties = parties; action = action.0 })
barrier_at words = Err (fault_at (length words + 1) fault.OperandCount)

unfoldable pub thread_at : List (List ℕ) → Result (SymbolicThread Name) WordFault
thread_at (name ∷ row ∷ []) = do
  name ← read_at 2 (name_at name)
  row ← read_at 1 (reference_at greatest_number row)
  Ok (record { name = name; first_row = row })
thread_at words = Err (fault_at (length words + 1) fault.OperandCount)

unfoldable pub cell_at : List (List ℕ) → Result Name WordFault
cell_at (name ∷ []) = read_at 1 (name_at name)
cell_at words = Err (fault_at (length words + 1) fault.OperandCount)

-- the words of the directives
abbrev pub is_directive : List ℕ → Bool
is_directive word =
    bytes_eq word (codes ".phaser") || bytes_eq word (codes ".barrier")
    || bytes_eq word (codes ".thread") || bytes_eq word (codes ".cell")

-- a directive from its word and its operands
unfoldable pub directive_at : List ℕ → List (List ℕ) → Result (Statement Name) WordFault
directive_at word words =
    if bytes_eq word (codes ".phaser") then phaser_at words >>= (λ p. Ok (statement.Phaser p))
    else (if bytes_eq word (codes ".barrier")
    then barrier_at words >>= (λ b. Ok (statement.Barrier b))
    else (if bytes_eq word (codes ".thread")
    then thread_at words >>= (λ t. Ok (statement.Thread t))
    else cell_at words >>= (λ name. Ok (statement.Cell name))))

-- whether a word ends in a colon, and the word without its last byte
abbrev pub is_label : List ℕ → Bool
is_label [] = false
is_label (byte ∷ []) = byte == 58
is_label (byte ∷ next ∷ bytes) = is_label (next ∷ bytes)

abbrev pub before_last : List ℕ → List ℕ
before_last word = take (length word - 1) word
