-- What a statement adds to each list of an image is in its ranges.
use Rattle.std.proofs.Common.{ℕ, suc, ◌<◌, ◌≤◌, pos, FitsSigned, List, [], ◌∷◌, Option, Some, None, sym, subst, arith, rules, IfSome}
use Rattle.std.proofs.lemmas.Int.{ints}
use Rattle.std.specs.{Int.w32, List.AllByRecursion}
use Rattle.instruction_table.specs.declared.shape.OperandKind.{OperandKind}
use Rattle.instruction_table.specs.declared.shape.OperandKind.TheVariants as kind
use Rattle.row_code.specs.{declared.operands.Operands.Operands, RowFields.IsRow, Phasers.IsPolicy, Phasers.IsPhaser}
use Rattle.row_code.specs.{Barriers.IsBarrier, Threads.IsThread}
use Rattle.row_code.proofs.RowLaws.{row_with_fits}
use Rattle.line_reader.specs.declared.reference.Reference.{Reference, TheVariants.Named, TheVariants.Numbered}
use Rattle.line_reader.specs.declared.{symbolic_row.Operand.Operand, symbolic_row.SymbolicRow.SymbolicRow, statement.Line.Line}
use Rattle.line_reader.specs.declared.{symbolic_phaser.SymbolicPolicy.SymbolicPolicy, statement.Statement.Statement}
use Rattle.line_reader.specs.Symbols.{Name}
use Rattle.line_reader.specs.Spelling.{Spell, SpellOperands, SpellPolicy, SpellRow, SpellsNumber, SpellsReference, greatest_number, operand_in}
use Rattle.line_reader.specs.declared.symbolic_row.Operand.TheVariants as operand
use Rattle.line_reader.specs.declared.statement.Statement.TheVariants as statement
use Rattle.assembler.specs.Statements.{count, most, number_named}
use Rattle.assembler.specs.Meaning.{barriers_in, referent_or_0, number_or_0, operands_of, phasers_in, policy_of, row_of, rows_in, threads_in, with_operand}
use Rattle.assembler.proofs.Counts.{AreFew, number_within, phaser_below}

-- ---- numbers

few_kinds : (k : OperandKind) → most k ≤ 65535
few_kinds k = grind arith

small_or_0 : (n : ℕ) (found : Option ℕ) → IfSome found (λ m. m ≤ n) → number_or_0 found ≤ n
small_or_0 n found h = grind arith

below_or_0 : (n : ℕ) (found : Option ℕ) → IfSome found (λ m. m < n) → n ≤ 64 → number_or_0 found < 64
below_or_0 n found h few = grind arith

spelled_below : (high n : ℕ) (word : List ℕ) → SpellsNumber (pos 0) (pos high) word (pos n) → n ≤ high
spelled_below high n word h = omega (arith, ints, h.greatest)

number_fits : (all : List (Line Name)) → AreFew all → (k : OperandKind) (word : List ℕ) (r : Reference Name) →
    SpellsReference greatest_number word r → referent_or_0 all k r < 65536
number_fits all few k word (Named name) h =
    omega (arith, small_or_0 (count k all) (number_named k name all) (number_within k name all), few k, few_kinds k)
number_fits all few k word (Numbered n) h = omega (arith, spelled_below 65535 n h.0 h.2)

parent_fits : (all : List (Line Name)) → AreFew all → (word : List ℕ) (r : Reference Name) →
    SpellsReference 63 word r → referent_or_0 all kind.Phaser r < 64
parent_fits all few word (Named name) h = below_or_0 (count kind.Phaser all) (number_named kind.Phaser name all) (phaser_below name all) (few kind.Phaser)
parent_fits all few word (Numbered n) h = omega (arith, spelled_below 63 n h.0 h.2)

-- ---- operands

abbrev IsInRange : List (Line Name) → Operand Name → Type 0
IsInRange all operand.Absent = Unit {0}
IsInRange all (operand.Register reg) = Unit {0}
IsInRange all (operand.Number value) = FitsSigned w32 value
IsInRange all (operand.Object k reference) = referent_or_0 all k reference < 65536

each_fits : (all : List (Line Name)) → AreFew all → (kinds : List OperandKind) (words : List (List ℕ)) (operands : List (Operand Name)) →
    SpellOperands kinds words operands → (place : ℕ) → IsInRange all (operand_in operands place)
each_fits all few (k ∷ kinds) (word ∷ words) (o ∷ operands) h (suc place) = each_fits all few kinds words operands h.1 place
each_fits all few kinds words operands h place = grind (arith, number_fits)

record AreInRange (o : Operands) : Type 0 where
  number : FitsSigned w32 o.number
  object : o.object < 65536

one_more : (all : List (Line Name)) (operand : Operand Name) (o : Operands) → IsInRange all operand → AreInRange o → AreInRange (with_operand all operand o)
one_more all operand o h fit = grind arith

no_operands : (all : List (Line Name)) → AreInRange (operands_of all [])
no_operands all = record { number = record { sfits = omega (arith, ints) }; object = omega arith }

row_fits : (all : List (Line Name)) → AreFew all → (words : List (List ℕ)) (row : SymbolicRow Name) → SpellRow words row → IsRow (row_of all row)
row_fits all few words row (entry, word, rest, operands, spelled, named, is, spell) =
    let each = each_fits all few entry.operands rest operands spell in
    let first = operand_in operands 0 in
    let second = operand_in operands 1 in
    let third = operand_in operands 2 in
    let fourth = operand_in operands 3 in
    let fit_fourth = one_more all fourth (operands_of all []) (each 3) (no_operands all) in
    let fit_third = one_more all third (operands_of all (fourth ∷ [])) (each 2) fit_fourth in
    let fit_second = one_more all second (operands_of all (third ∷ fourth ∷ [])) (each 1) fit_third in
    let o = operands_of all (first ∷ second ∷ third ∷ fourth ∷ []) in
    let fit : AreInRange o = one_more all first (operands_of all (second ∷ third ∷ fourth ∷ [])) (each 0) fit_second in
    subst (λ (r : SymbolicRow Name). IsRow (row_of all r)) (sym is) (row_with_fits entry.opcode o fit.number fit.object)

-- ---- statements

routine_fits : (all : List (Line Name)) → AreFew all → (words : List (List ℕ)) (p : SymbolicPolicy Name) → SpellPolicy words p → IsPolicy (policy_of all p)
routine_fits all few words p h = grind (arith, number_fits)

-- what a statement adds to each list is in its ranges
pub record Fits (all : List (Line Name)) (s : Statement Name) : Type 0 where
  pub phasers : AllByRecursion IsPhaser (phasers_in all s)
  pub barriers : AllByRecursion IsBarrier (barriers_in all s)
  pub threads : AllByRecursion IsThread (threads_in all s)
  pub rows : AllByRecursion IsRow (rows_in all s)

pub spelled_fits : (all : List (Line Name)) → AreFew all → (words : List (List ℕ)) (s : Statement Name) → Spell words s → Fits all s
spelled_fits all few words (statement.Phaser p) (parties, parent, phase, policy, spelled, name, count, has_parent, begins, has_policy) = grind (arith, parent_fits, routine_fits, spelled_below)
spelled_fits all few words (statement.Barrier b) (parties, action, spelled, name, count, has_action) = grind (arith, spelled_below, number_fits)
spelled_fits all few words (statement.Thread t) (row, spelled, name, first) = grind (arith, number_fits)
spelled_fits all few words (statement.Cell name) h = record { phasers = tt; barriers = tt; threads = tt; rows = tt }
spelled_fits all few words (statement.Label name) h = record { phasers = tt; barriers = tt; threads = tt; rows = tt }
spelled_fits all few words (statement.Row None row) h = search (rules, row_fits)
spelled_fits all few words (statement.Row (Some name) row) (label, rest, spelled, labelled, h) = search (rules, row_fits)
