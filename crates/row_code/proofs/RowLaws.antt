-- What a row's bytes lead back to.
use Rattle.std.proofs.Common.{◌≡◌, ℕ, zero, suc, ◌<◌, ℤ, pos, ◌<ℤ◌, FitsSigned, true, false, cond, List, [], ◌∷◌, get_or, bytes_eq, Some, None, refl, sym, subst, arith, rules}
use Rattle.std.proofs.lemmas.{Int.ints, Bool.Decides.nat_tests}
use Rattle.std.specs.{List.AllByRecursion, Int.w32}
use Rattle.instruction_table.specs.{declared.row.Row.Row, declared.row.Row.TheVariants.Halt, Row.opcode_of}
use Rattle.row_code.specs.{Number.i32_bytes, Number.i32_of, RowFields.fields_of, RowFields.IsRow}
use Rattle.row_code.specs.{declared.operands.Operands.Operands, RowBytes.bytes_of, RowBytes.fields_at}
use Rattle.row_code.specs.RowOperands.{operands_at, rows_with, row_with, row_in}

-- a row's own fields lead back to it
likely_back : (row : Row) → IsRow row → row_with (opcode_of row) (operands_at (fields_of row)) ≡ row
likely_back Halt h = refl
likely_back row h = grind (arith, ints, nat_tests)

-- an `int` is read as it was written
pub i32_back : (z : ℤ) → FitsSigned w32 z → i32_of (i32_bytes z) ≡ z
i32_back z h = grind arith

-- the row that a row's bytes are taken for is that row
pub row_back : (row : Row) → IsRow row → row_with (opcode_of row) (operands_at (fields_at (bytes_of row))) ≡ row
row_back row h = grind (arith, i32_back, likely_back)

same_bytes : (bytes : List ℕ) → bytes_eq bytes bytes ≡ true
same_bytes bytes = search rules

-- what is taken for a row is one where its bytes are those, and none where they are others
pub when_spelled : (row taken : Row) (bytes : List ℕ) → row ≡ taken → bytes_eq (bytes_of row) bytes ≡ true →
    Some row ≡ cond (bytes_eq (bytes_of taken) bytes) (Some taken) None
when_spelled row taken bytes e same = grind arith

pub when_not : (row taken : Row) (bytes : List ℕ) → row ≡ taken → bytes_eq (bytes_of row) bytes ≡ false →
    None ≡ cond (bytes_eq (bytes_of taken) bytes) (Some taken) None
when_not row taken bytes e other = grind arith

pub row_in_bytes_of : (row : Row) → IsRow row → row_in (bytes_of row) ≡ Some row
row_in_bytes_of row fits =
    sym (when_spelled row (row_with (opcode_of row) (operands_at (fields_at (bytes_of row)))) (bytes_of row)
    (sym (row_back row fits)) (same_bytes (bytes_of row)))

-- eight bytes that spell a row are that row
pub row_in_its_bytes : (bytes : List ℕ) (row : Row) → IsRow row → bytes_of row ≡ bytes → row_in bytes ≡ Some row
row_in_its_bytes bytes row fits spelled = subst (λ (bs : List ℕ). row_in bs ≡ Some row) spelled (row_in_bytes_of row fits)

-- ---- a row of operands in their ranges

entry_has : (P : Row → Type 0) (rows : List Row) (place : ℕ) (past : Row) → AllByRecursion P rows → P past → P (get_or rows place past)
entry_has P [] place past all h = h
entry_has P (row ∷ rows) zero past all h = all.0
entry_has P (row ∷ rows) (suc place) past all h = entry_has P rows place past all.1 h

-- each row of these operands is in its ranges
pub row_with_fits : (opcode : ℕ) (o : Operands) → FitsSigned w32 o.number → o.object < 65536 → IsRow (row_with opcode o)
row_with_fits opcode o number small =
    let none : pos 0 <ℤ pos 65536 = omega (arith, ints) in
    let object : pos o.object <ℤ pos 65536 = omega (arith, ints) in
    entry_has IsRow (rows_with o) opcode Halt (search rules) none
