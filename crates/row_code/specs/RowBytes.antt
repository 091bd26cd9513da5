-- A row as eight bytes.
use Rattle.std.specs.Prelude.{ℕ, List, ◌∷◌, drop, slice_index}
use Rattle.instruction_table.specs.{declared.row.Row.Row, Row.opcode_of}
use Rattle.row_code.specs.{declared.fields.Fields.Fields, RowFields.filled, RowFields.fields_of}
use Rattle.row_code.specs.Number.{i32_bytes, i32_of}

-- the one spelling of a row: its opcode, a, b, c, and imm
abbrev pub bytes_of : Row → List ℕ
bytes_of row = let f = fields_of row in opcode_of row ∷ f.a ∷ f.b ∷ f.c ∷ i32_bytes f.imm

-- the fields after the opcode in eight bytes
abbrev pub fields_at : List ℕ → Fields
fields_at bytes =
    filled (slice_index bytes 1) (slice_index bytes 2) (slice_index bytes 3) (i32_of (drop 4 bytes))
