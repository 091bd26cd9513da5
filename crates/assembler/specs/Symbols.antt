-- The names in a text, and what each name refers to.
use Rattle.std.specs.Prelude.{ℕ, ◌==◌, ◌&&◌, Bool, List, [], ◌∷◌, find, Option, Some, None, option_map, Result, Ok}
use Rattle.std.specs.List.{flat_map}
use Rattle.instruction_table.specs.declared.shape.OperandKind.{OperandKind}
use Rattle.line_reader.specs.declared.{asm_fault.AsmFault.AsmFault, statement.Line.Line, statement.Statement.Statement}
use Rattle.line_reader.specs.{Seen.Borrowed, Symbols.Name, Words.lines_of}
use Rattle.line_reader.specs.declared.statement.Statement.TheVariants as statement
use Rattle.row_code.specs.Answers.{◌>>=◌}
use Rattle.assembler.specs.{declared.symbols.Symbol.Symbol, Passes.lines_read}
use Rattle.assembler.specs.Statements.{is_kind, kind_named, name_in, number_named}

-- the names of a text in order, each with the kind and number of what it refers to (a label refers to a row), and the line of
-- each row
pub record SymbolTable : Type 0 where
  pub names : List (Symbol Name)
  pub rows : List ℕ

-- a name and the number that it stands for, if there are both
abbrev pub symbol_by : OperandKind → Option Name → Option ℕ → List (Symbol Name)
symbol_by k (Some name) (Some number) = record { kind = k; number = number; name = name } ∷ []
symbol_by k _ _ = []

-- the number that a name stands for, if there is a name
abbrev pub number_by : List (Line Name) → OperandKind → Option Name → Option ℕ
number_by lines k None = None
number_by lines k (Some name) = number_named k name lines

-- the name that a statement gives among these lines
abbrev pub symbol_in : List (Line Name) → Statement Name → List (Symbol Name)
symbol_in lines statement =
    let k = kind_named statement in symbol_by k (name_in statement) (number_by lines k (name_in statement))

-- the line of a row
abbrev pub row_line_by : ℕ → Statement Name → List ℕ
row_line_by number (statement.Row label row) = number ∷ []
row_line_by number _ = []

abbrev pub row_line : Line Name → List ℕ
row_line line = row_line_by line.number line.statement

-- the names that lines give, and the lines of their rows
abbrev pub symbols_of : List (Line Name) → SymbolTable
symbols_of lines = record {
  names = flat_map (λ line. symbol_in lines line.statement) lines;
  rows = flat_map row_line lines;
}

-- those of a text
unfoldable pub symbols_in : List ℕ → Result SymbolTable AsmFault
symbols_in text = do
  lines ← lines_read 1 [] (lines_of text)
  Ok (symbols_of lines)

-- the name of the thing of this kind and this number: of a row its first label
abbrev pub is_symbol_of : OperandKind → ℕ → Symbol Name → Bool
is_symbol_of k number symbol = is_kind k symbol.kind && (symbol.number == number)

abbrev pub symbol_name : Symbol Name → Name
symbol_name symbol = symbol.name

abbrev pub name_of : OperandKind → ℕ → SymbolTable → Option Name
name_of k number table = option_map symbol_name (find (is_symbol_of k number) table.names)

-- a symbol as code has it, its name seen as bytes
abbrev pub symbol_seen : Symbol Borrowed → Symbol Name
symbol_seen symbol = record { kind = symbol.kind; number = symbol.number; name = symbol.name.now }
