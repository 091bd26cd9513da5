-- Names, and the operands of a row, which may be names.
use Rattle.std.specs.Prelude.{ℕ, List, [], ◌∷◌}
use Rattle.line_reader.specs.declared.symbolic_row.{Operand.Operand, SymbolicRow.SymbolicRow}

-- a name, as the bytes that it is spelled with
abbrev pub Name : Type 0
Name = List ℕ

-- the four operands of a row, absent ones among them
abbrev pub operands_in : SymbolicRow Name → List (Operand Name)
operands_in row = row.first ∷ row.second ∷ row.third ∷ row.fourth ∷ []
