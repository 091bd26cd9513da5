-- The row that has a given opcode and given operands. This gives a program's text its meaning. It is also how the row of
-- eight bytes is found: the only row that they could encode is made, and then compared. The meaning of a row's bytes
-- doesn't depend on it: `decode` returns exactly the row with these bytes.
use Rattle.std.specs.Prelude.{ℕ, nat_lt, ℤ, pos, negsuc, List, [], ◌∷◌, slice_index, slice_index_or, bytes_eq, Option, Some, None, if◌then◌else◌}
use Rattle.instruction_table.specs.declared.{register.Reg.Reg, row.Row.Row}
use Rattle.instruction_table.specs.declared.register.Reg.TheVariants.{R0, R1, R2, R3, R4, R5, R6, R7}
use Rattle.instruction_table.specs.declared.row.Row.TheVariants.{Halt, Ldi, Mov, Add, Sub, Jmp, Beq, Bne, Blt, Call, Ret, Try, Endtry, Throw, Out, Lds, Sts, SelfNumber, Intr, Intrd, Preg, Pbulk, Parr, Pdereg, Paaa, Pawait, Pawaiti, Pforce, Pphase, Pparties, Parrived, Punarr, Pterm, Pparent, Proot, Cawait, Creset, Cbroken, Cwaiting, Cparties, Pawaitt, Cawaitt}
use Rattle.row_code.specs.{RowBytes.bytes_of, RowBytes.fields_at, declared.fields.Fields.Fields}
use Rattle.row_code.specs.declared.operands.Operands.{Operands}

-- the register with a number, or r0 if there is none
abbrev pub register_at : ℕ → Reg
register_at n = slice_index_or (R0 ∷ R1 ∷ R2 ∷ R3 ∷ R4 ∷ R5 ∷ R6 ∷ R7 ∷ []) n R0

-- the number of a target or an object, or 0 if imm has none
abbrev pub object_at : ℤ → ℕ
object_at (pos n) = if nat_lt n 65536 then n else 0
object_at (negsuc n) = 0

-- the fields as operands of each kind
abbrev pub operands_at : Fields → Operands
operands_at f = record {
  a = register_at f.a;
  b = register_at f.b;
  c = register_at f.c;
  number = f.imm;
  object = object_at f.imm;
}

-- the row of each kind with these operands, at the place of its opcode
abbrev pub rows_with : Operands → List Row
rows_with o =
    Halt ∷
    Ldi o.a o.number ∷
    Mov o.a o.b ∷
    Add o.a o.b o.c ∷
    Sub o.a o.b o.c ∷
    Jmp o.object ∷
    Beq o.a o.b o.object ∷
    Bne o.a o.b o.object ∷
    Blt o.a o.b o.object ∷
    Call o.object ∷
    Ret ∷
    Try o.object ∷
    Endtry ∷
    Throw o.a ∷
    Out o.a ∷
    Lds o.a o.object ∷
    Sts o.a o.object ∷
    SelfNumber o.a ∷
    Intr o.object ∷
    Intrd o.a ∷
    Preg o.a o.object ∷
    Pbulk o.a o.object o.b ∷
    Parr o.a o.object ∷
    Pdereg o.a o.object ∷
    Paaa o.a o.object ∷
    Pawait o.a o.object o.b ∷
    Pawaiti o.a o.object o.b ∷
    Pforce o.object ∷
    Pphase o.a o.object ∷
    Pparties o.a o.object ∷
    Parrived o.a o.object ∷
    Punarr o.a o.object ∷
    Pterm o.a o.object ∷
    Pparent o.a o.object ∷
    Proot o.a o.object ∷
    Cawait o.a o.object ∷
    Creset o.object ∷
    Cbroken o.a o.object ∷
    Cwaiting o.a o.object ∷
    Cparties o.a o.object ∷
    Pawaitt o.a o.object o.b o.c ∷
    Cawaitt o.a o.object o.b ∷
    []

-- the row of an opcode with these operands, or `halt` if there is no such opcode
abbrev pub row_with : ℕ → Operands → Row
row_with opcode o = slice_index_or (rows_with o) opcode Halt

-- the row that eight bytes encode, if they encode one
abbrev pub row_in : List ℕ → Option Row
row_in bytes =
    let row = row_with (slice_index bytes 0) (operands_at (fields_at bytes)) in
    if bytes_eq (bytes_of row) bytes then Some row else None
