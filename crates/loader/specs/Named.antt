-- Which object a row names, and after which rows a thread never continues with the next row.
use Rattle.std.specs.Prelude.{ℕ, nat_abs, Bool, true, false, List, [], ◌∷◌}
use Rattle.instruction_table.specs.declared.row.Row.{Row, TheVariants.Halt, TheVariants.Jmp, TheVariants.Ret, TheVariants.Throw}
use Rattle.instruction_table.specs.{declared.shape.OperandKind.OperandKind, Table.entry_for}
use Rattle.instruction_table.specs.declared.shape.OperandKind.TheVariants.{Register, Target, Phaser, Barrier, Thread, Cell}
use Rattle.row_code.specs.RowFields.{fields_of}
use Rattle.loader.specs.declared.named.Named.{Named}
use Rattle.loader.specs.declared.named.Named.TheVariants as named

-- the kind of the operand that isn't a register, or `Register` if there is none
abbrev pub other_kind : List OperandKind → OperandKind
other_kind [] = Register
other_kind (Register ∷ kinds) = other_kind kinds
other_kind (kind ∷ kinds) = kind

-- the thing of a kind and a number
abbrev pub thing : OperandKind → ℕ → Named
thing Target n = named.Target n
thing Cell n = named.Cell n
thing Thread n = named.Thread n
thing Phaser n = named.Phaser n
thing Barrier n = named.Barrier n
thing _ n = named.Nothing

-- the one object that a row names besides registers and numbers, if it names one
abbrev pub named_by : Row → Named
named_by row = thing (other_kind (entry_for row).operands) (nat_abs (fields_of row).imm)

-- no thread goes on to the row after it
abbrev pub stops : Row → Bool
stops Halt = true
stops (Jmp target) = true
stops Ret = true
stops (Throw code) = true
stops _ = false
