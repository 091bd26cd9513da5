-- The operands of a row by their places, and one after the other: the same.
use Rattle.std.proofs.Common.{◌≡◌, ℕ, ◌+◌, ◌≤◌, List, [], ◌∷◌, length, map, Result, Ok, Err, refl, arith, option_map}
use Rattle.std.proofs.lemmas.Option.{slice_get-map}
use Rattle.std.specs.List.{slice_get}
use Rattle.instruction_table.specs.declared.shape.OperandKind.{OperandKind}
use Rattle.line_reader.specs.{declared.asm_fault.WordFault.WordFault, declared.symbolic_row.Operand.Operand, Symbols.Name}
use Rattle.line_reader.specs.{declared.symbolic_row.SymbolicRow.SymbolicRow, Spelling.with_operands}
use Rattle.line_reader.specs.Reading.{fault_at, operand_at, read_at, row_of_kinds}
use Rattle.line_reader.specs.Seen.{Borrowed, name_seen}
use Rattle.line_reader.specs.declared.asm_fault.AsmFaultKind.TheVariants as fault
use Rattle.line_reader.specs.declared.symbolic_row.Operand.TheVariants as operand
use Rattle.row_code.specs.Answers.{◌>>=◌}

abbrev Read : Type 0
Read = Result (Operand Name) WordFault

abbrev RowRead : Type 0
RowRead = Result (SymbolicRow Name) WordFault

-- operands of these kinds, one after the other
unfoldable pub operands_at : List OperandKind → List (List ℕ) → Result (List (Operand Name)) WordFault
operands_at [] words = Ok []
operands_at (k ∷ kinds) [] = Err (fault_at 1 fault.OperandCount)
operands_at (k ∷ kinds) (word ∷ words) = do
  first ← read_at (length words + 1) (operand_at k word)
  others ← operands_at kinds words
  Ok (first ∷ others)

-- ---- what is read one after the other stands at its place

abbrev row : ℕ → Operand Name → Operand Name → Operand Name → Operand Name → RowRead
row opcode a b c d = Ok (record { opcode = opcode; first = a; second = b; third = c; fourth = d })

abbrev pub rowed : ℕ → Result (List (Operand Name)) WordFault → RowRead
rowed opcode os = os >>= (λ operands. Ok (with_operands opcode operands))

abbrev before : Read → Result (List (Operand Name)) WordFault → Result (List (Operand Name)) WordFault
before a os = a >>= (λ first. os >>= (λ others. Ok (first ∷ others)))

abbrev none : Operand Name
none = operand.Absent

one : (opcode : ℕ) (a : Read) → rowed opcode (before a (Ok [])) ≡ (a >>= (λ w. row opcode w none none none))
one opcode a = grind arith

two : (opcode : ℕ) (a b : Read) →
    rowed opcode (before a (before b (Ok []))) ≡ (a >>= (λ w. b >>= (λ x. row opcode w x none none)))
two opcode a b = grind arith

pub by_place : (opcode : ℕ) (kinds : List OperandKind) (words : List (List ℕ)) → length kinds ≤ 4 →
    length words ≡ length kinds → rowed opcode (operands_at kinds words) ≡ row_of_kinds opcode kinds words
unfolding row_of_kinds operands_at
by_place opcode [] [] short same = refl
by_place opcode (j ∷ []) (v ∷ []) short same = one opcode (read_at 1 (operand_at j v))
by_place opcode (j ∷ k ∷ []) (v ∷ w ∷ []) short same = two opcode (read_at 2 (operand_at j v)) (read_at 1 (operand_at k w))
by_place opcode (j ∷ k ∷ l ∷ []) (v ∷ w ∷ x ∷ []) short same = grind arith
by_place opcode (j ∷ k ∷ l ∷ m ∷ []) (v ∷ w ∷ x ∷ y ∷ []) short same = grind arith
by_place opcode _ words short same = grind arith

-- ---- the same of names that are borrowed

pub seen_there : (words : List Borrowed) (place : ℕ) →
    slice_get (map name_seen words) place ≡ option_map name_seen (slice_get words place)
seen_there words place = slice_get-map name_seen words place
