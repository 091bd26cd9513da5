-- Registers, operands and rows: what is read is spelled so, and what is spelled so is read.
use Rattle.std.proofs.Common.{◌≡◌, ℕ, ◌+◌, Bool, true, ◌==◌, List, [], ◌∷◌, length, bytes_eq, find, Option, Some, Ok, refl, sym, ap, subst, ◌∙◌, arith, nat_lt, ltb-true, ◌≤◌, eqb-true}
use Rattle.std.proofs.lemmas.Bool.{and_parts, Decides.Decides-eqb}
use Rattle.std.specs.List.{list_all}
use Rattle.instruction_table.specs.declared.{register.Reg.Reg, shape.OperandKind.OperandKind}
use Rattle.instruction_table.specs.Table.{Entry, table, entry_named}
use Rattle.instruction_table.specs.declared.shape.OperandKind.TheVariants as kind
use Rattle.line_reader.specs.declared.asm_fault.AsmFaultKind.TheVariants as fault
use Rattle.line_reader.specs.declared.symbolic_row.{Operand.Operand, SymbolicRow.SymbolicRow}
use Rattle.line_reader.specs.Symbols.{Name}
use Rattle.line_reader.specs.Spelling.{least_int, greatest_int, register_word, SpellsOperand, SpellOperands, SpellRow}
use Rattle.line_reader.specs.Reading.{fault_at, found_or, number_at, register_at, operand_at, read_at, row_at}
use Rattle.line_reader.specs.declared.symbolic_row.Operand.TheVariants as operand
use Rattle.line_reader.proofs.ByPlace.{operands_at, rowed, by_place}
use Rattle.line_reader.proofs.Steps.{bind_ok, bound, ok_is, check_ok, by_test, is_bytes, read_ok}
use Rattle.line_reader.proofs.SpelledNumbers.{number_takes, number_again, reference_takes, reference_again}

abbrev found : {A : Type 0} → A → Option A
found x = Some x

some_is : {A : Type 0} (x y : A) → found x ≡ found y → x ≡ y
some_is x y e = cc

-- what is found passes the test
pub find_passes : {A : Type 0} (test : A → Bool) (xs : List A) (x : A) → find test xs ≡ Some x → test x ≡ true
find_passes test [] x e = absurd (cc)
find_passes {A} test (first ∷ xs) x e =
    by_test (test first)
    (λ is. subst (λ (y : A). test y ≡ true) (some_is first x (rw is at e)) is)
    (λ is-not. find_passes test xs x (rw is-not at e))

found_takes : {A E : Type 0} (fault : E) (o : Option A) (x : A) → found_or fault o ≡ Ok x → o ≡ Some x
found_takes fault o x e = grind arith

pub register_takes : (word : List ℕ) (reg : Reg) → register_at word ≡ Ok reg → word ≡ register_word reg
unfolding register_at
register_takes word reg e = grind (arith, is_bytes, find_passes, found_takes)

register_word_again : (reg : Reg) → register_at (register_word reg) ≡ Ok reg
unfolding register_at
register_word_again reg = grind arith

pub register_again : (word : List ℕ) (reg : Reg) → word ≡ register_word reg → register_at word ≡ Ok reg
register_again word reg e = subst (λ (w : List ℕ). register_at w ≡ Ok reg) (sym e) (register_word_again reg)

pub operand_takes : (k : OperandKind) (word : List ℕ) (o : Operand Name) → operand_at k word ≡ Ok o →
    SpellsOperand k word o
unfolding operand_at
operand_takes kind.Register word o e = grind (arith, bind_ok, ok_is, register_takes)
operand_takes kind.Number word o e =
    let a = bind_ok (number_at least_int greatest_int word) _ o e in
    subst (λ (p : Operand Name). SpellsOperand kind.Number word p) (ok_is _ _ a.2)
    (refl, number_takes least_int greatest_int word a.0 a.1)
operand_takes k word o e = grind (arith, bind_ok, ok_is, reference_takes)

pub operand_again : (k : OperandKind) (word : List ℕ) (o : Operand Name) → SpellsOperand k word o →
    operand_at k word ≡ Ok o
unfolding operand_at
operand_again k word operand.Absent s = elim s [ ]
operand_again k word (operand.Register reg) s =
    subst (λ (j : OperandKind). operand_at j word ≡ Ok (operand.Register reg)) (sym s.0) (rw (register_again word reg s.1) refl)
operand_again k word (operand.Number value) s =
    subst (λ (j : OperandKind). operand_at j word ≡ Ok (operand.Number value)) (sym s.0)
    (rw (number_again least_int greatest_int word value s.1) refl)
operand_again k word (operand.Object object r) s = grind (arith, reference_again)

pub operands_take : (kinds : List OperandKind) (words : List (List ℕ)) (os : List (Operand Name)) →
    length words ≡ length kinds → operands_at kinds words ≡ Ok os → SpellOperands kinds words os
unfolding operands_at
operands_take (k ∷ kinds) (word ∷ words) os len e =
    let a = bind_ok (read_at (length words + 1) (operand_at k word)) _ os e in
    let b = bind_ok (operands_at kinds words) _ os a.2 in
    subst (λ (ps : List (Operand Name)). SpellOperands (k ∷ kinds) (word ∷ words) ps) (ok_is _ _ b.2)
    (operand_takes k word a.0 (read_ok (length words + 1) (operand_at k word) a.0 a.1), operands_take kinds words b.0 (omega (arith, len)) b.1)
operands_take kinds words os len e = grind (arith, ok_is, bind_ok, read_ok, operands_at, operand_takes)

pub operands_again : (kinds : List OperandKind) (words : List (List ℕ)) (os : List (Operand Name)) →
    SpellOperands kinds words os → operands_at kinds words ≡ Ok os
unfolding operands_at
operands_again (k ∷ kinds) (word ∷ words) (o ∷ os) s = grind (arith, operand_again, operands_again kinds words os s.1)
operands_again kinds words os s = grind (arith, operand_again)

length_spelled : (kinds : List OperandKind) (words : List (List ℕ)) (os : List (Operand Name)) →
    SpellOperands kinds words os → length words ≡ length kinds
length_spelled (k ∷ kinds) (word ∷ words) (o ∷ os) s = omega (arith, length_spelled kinds words os s.1)
length_spelled kinds words os s = grind arith

-- ---- rows

-- what is found passes a test that all pass
found_of_all : {A : Type 0} (test passes : A → Bool) (xs : List A) (x : A) → list_all passes xs ≡ true →
    find test xs ≡ Some x → passes x ≡ true
found_of_all test passes [] x all e = absurd (cc)
found_of_all {A} test passes (first ∷ xs) x all e =
    let parts = and_parts (passes first) (list_all passes xs) all in
    by_test (test first)
    (λ is. subst (λ (y : A). passes y ≡ true) (some_is first x (rw is at e)) parts.0)
    (λ is-not. found_of_all test passes xs x parts.1 (rw is-not at e))

abbrev is_short : Entry → Bool
is_short entry = nat_lt (length entry.operands) 5

-- a row has four operands at most
four_at_most : (word : List ℕ) (entry : Entry) → entry_named table word ≡ Some entry → length entry.operands ≤ 4
four_at_most word entry e =
    omega (arith, ltb-true (length entry.operands) 5 (found_of_all (λ (other : Entry). bytes_eq other.word word) is_short table entry refl e))

pub row_takes : (word : List ℕ) (words : List (List ℕ)) (row : SymbolicRow Name) → row_at word words ≡ Ok row →
    SpellRow (word ∷ words) row
unfolding row_at
row_takes word words row e =
    bound (found_or (fault_at (length words + 1) fault.UnknownWord) (entry_named table word)) _ row e (λ entry found e.
    let named = found_takes (fault_at (length words + 1) fault.UnknownWord) _ entry found in
    let counted = check_ok (length words == length entry.operands) (fault_at (length words + 1) fault.OperandCount) _ row e in
    let same = eqb-true _ _ counted.0 in
    let read : rowed entry.opcode (operands_at entry.operands words) ≡ Ok row =
    by_place entry.opcode entry.operands words (four_at_most word entry named) same ∙ counted.1 in
    bound (operands_at entry.operands words) _ row read (λ operands read e. (
      entry,
      word,
      words,
      operands,
      refl,
      named,
      sym (ok_is _ _ e),
      operands_take entry.operands words operands same read,
    )))

pub row_again : (word : List ℕ) (words : List (List ℕ)) (row : SymbolicRow Name) → SpellRow (word ∷ words) row →
    row_at word words ≡ Ok row
unfolding row_at
row_again word words row s =
    let first : word ≡ s.1 = cc (s.4) in
    let others : words ≡ s.2 = cc (s.4) in
    let named : entry_named table word ≡ Some s.0 = subst (λ (w : List ℕ). entry_named table w ≡ Some s.0) (sym first) s.5 in
    let spelled : SpellOperands s.0.operands words s.3 = subst (λ (ws : List (List ℕ)). SpellOperands s.0.operands ws s.3) (sym others) s.7 in
    let same = length_spelled s.0.operands words s.3 spelled in
    let count : (length words == length s.0.operands) ≡ true = (Decides-eqb _ _).1 same in
    rw (named, count) (sym (by_place s.0.opcode s.0.operands words (four_at_most word s.0 named) same)
    ∙ ap (rowed s.0.opcode) (operands_again s.0.operands words s.3 spelled) ∙ ap (λ (r : SymbolicRow Name). Ok r) (sym s.6))
