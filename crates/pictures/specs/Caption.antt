-- The names of what a program declares, and its rows with these names.
use Rattle.std.specs.Prelude.{ℕ, ℤ, List, [], ◌∷◌, ◌++◌, codes, decimal, Option, Some, None, unsigned_abs}
use Rattle.std.specs.Fmt.{signed_decimal}
use Rattle.assembler.specs.Symbols.{SymbolTable, name_of}
use Rattle.instruction_table.specs.{declared.row.Row.Row, declared.shape.OperandKind.OperandKind, Table.entry_for}
use Rattle.instruction_table.specs.declared.shape.OperandKind.TheVariants as kind
use Rattle.line_reader.specs.{Symbols.Name, Listing.joined}
use Rattle.row_code.specs.RowFields.{fields_of}

-- what stands before a number if there is no name: `t0`, `p0`, `b0`, `c0`, and `#0` for a row
abbrev pub letter : OperandKind → List ℕ
letter kind.Thread = codes "t"
letter kind.Phaser = codes "p"
letter kind.Barrier = codes "b"
letter kind.Cell = codes "c"
letter _ = codes "#"

abbrev pub called_by : OperandKind → ℕ → Option Name → List ℕ
called_by k number None = letter k ++ decimal number
called_by k number (Some name) = name

-- the name of what has this kind and number, or its letter and number if it has no name
abbrev pub called : SymbolTable → OperandKind → ℕ → List ℕ
called symbols k number = called_by k number (name_of k number symbols)

-- the operands of these kinds: registers one after the other, a number, or a name
abbrev pub named_operands : SymbolTable → List OperandKind → List ℕ → ℤ → List (List ℕ)
named_operands symbols [] registers imm = []
named_operands symbols (kind.Register ∷ kinds) [] imm = []
named_operands symbols (kind.Register ∷ kinds) (register ∷ registers) imm =
    (codes "r" ++ decimal register) ∷ named_operands symbols kinds registers imm
named_operands symbols (kind.Number ∷ kinds) registers imm =
    signed_decimal imm ∷ named_operands symbols kinds registers imm
named_operands symbols (k ∷ kinds) registers imm =
    called symbols k (unsigned_abs imm) ∷ named_operands symbols kinds registers imm

-- a row as a program text has it, with these names
abbrev pub row_caption : SymbolTable → Row → List ℕ
row_caption symbols row =
    let entry = entry_for row in
    let f = fields_of row in
    joined (entry.word ∷ named_operands symbols entry.operands (f.a ∷ f.b ∷ f.c ∷ []) f.imm)
