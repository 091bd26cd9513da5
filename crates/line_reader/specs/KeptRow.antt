-- How a row is stored until its names are looked up, and which row of the text this represents. Only proofs use this: no
-- promise depends on it.
use Rattle.std.specs.Prelude.{ℕ, ◌&&◌, ◌||◌, not, Bool, true, false, List, Option, Some, None}
use Rattle.std.specs.List.{slice_get}
use Rattle.instruction_table.specs.declared.shape.OperandKind.{OperandKind}
use Rattle.instruction_table.specs.declared.shape.OperandKind.TheVariants as kind
use Rattle.line_reader.specs.declared.kept_row.{Held.Held, KeptOperand.KeptOperand, KeptRow.KeptRow}
use Rattle.line_reader.specs.declared.reference.Reference.TheVariants.{Named, Numbered}
use Rattle.line_reader.specs.declared.symbolic_row.{Operand.Operand, SymbolicRow.SymbolicRow}
use Rattle.line_reader.specs.Symbols.{Name}
use Rattle.line_reader.specs.declared.kept_row.KeptOperand.TheVariants as kept
use Rattle.line_reader.specs.declared.symbolic_row.Operand.TheVariants as operand

-- the operand at a place, with what is held
abbrev pub operand_kept : Held → KeptOperand → Operand Name
operand_kept held kept.Absent = operand.Absent
operand_kept held (kept.Register reg) = operand.Register reg
operand_kept held kept.Number = operand.Number held.number
operand_kept held (kept.Numbered k) = operand.Object k (Numbered held.object)
operand_kept held (kept.Named k) = operand.Object k (Named held.name.now)

abbrev pub row_kept : KeptRow → SymbolicRow Name
row_kept row = record {
  opcode = row.held.opcode;
  first = operand_kept row.held row.first;
  second = operand_kept row.held row.second;
  third = operand_kept row.held row.third;
  fourth = operand_kept row.held row.fourth;
}

-- a kind whose operand is held apart: all but registers
abbrev pub is_other : OperandKind → Bool
is_other kind.Register = false
is_other _ = true

abbrev pub is_other_there : List OperandKind → ℕ → Bool
is_other_there kinds place = is_some_other (slice_get kinds place)
  where
    is_some_other : Option OperandKind → Bool
    is_some_other None = false
    is_some_other (Some k) = is_other k

-- a place that holds its operand itself
abbrev pub is_register : KeptOperand → Bool
is_register kept.Absent = true
is_register (kept.Register reg) = true
is_register _ = false

-- at most one of four operands is no register
abbrev pub one_other : List OperandKind → Bool
one_other kinds =
    let there = is_other_there kinds in
    not (there 0 && (there 1 || (there 2 || there 3)))
    && (not (there 1 && (there 2 || there 3)) && not (there 2 && there 3))
