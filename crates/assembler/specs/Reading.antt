-- How a line is read if the lines before it are known, which fault it has, and which of its words is wrong. The checks are
-- made in the order in which they are written here. The first check that fails gives the fault.
use Rattle.std.specs.Prelude.{ℕ, ◌+◌, not, if◌then◌else◌, List, [], ◌∷◌, length, Option, Some, None, Result, Ok, Err}
use Rattle.line_reader.specs.declared.asm_fault.AsmFaultKind.TheVariants as fault
use Rattle.line_reader.specs.declared.{asm_fault.WordFault.WordFault, statement.Line.Line, statement.Statement.Statement}
use Rattle.line_reader.specs.Symbols.{Name}
use Rattle.line_reader.specs.Reading.{check, fault_at, line_words, name_at, read_at, row_at, is_directive, directive_at, is_label, before_last}
use Rattle.line_reader.specs.declared.statement.Statement.TheVariants as statement
use Rattle.row_code.specs.Answers.{◌>>=◌}
use Rattle.assembler.specs.Statements.{name_in, is_new, has_code, has_room}

-- a directive after these lines: it comes before all code, with a new name, if there is room. Its name is its first operand
unfoldable pub directive_behind : List (Line Name) → List ℕ → List (List ℕ) →
    Result (Statement Name) WordFault
directive_behind before word words = do
  placed ← check (not (has_code before)) (fault_at (length words + 1) fault.MisplacedDirective)
  said ← directive_at word words
  named ← check (is_new before (name_in said)) (fault_at (length words) fault.NameTwice)
  fits ← check (has_room before said) (fault_at (length words + 1) fault.TooMany)
  Ok said

-- a row, while there is room; its label was checked before
unfoldable pub row_behind : List (Line Name) → Option Name → List ℕ → List (List ℕ) →
    Result (Statement Name) WordFault
row_behind before label word words = do
  row ← row_at word words
  fits ← check (has_room before (statement.Row label row)) (fault_at (length words + 1) fault.TooMany)
  Ok (statement.Row label row)

-- what follows a label: nothing or a row
unfoldable pub labelled_behind : List (Line Name) → Name → List (List ℕ) →
    Result (Statement Name) WordFault
labelled_behind before label [] = Ok (statement.Label label)
labelled_behind before label (word ∷ words) =
    if is_directive word then Err (fault_at (length words + 1) fault.MisplacedDirective)
    else row_behind before (Some label) word words

-- a line of one word or more
unfoldable pub statement_behind : List (Line Name) → List ℕ → List (List ℕ) →
    Result (Statement Name) WordFault
statement_behind before word words =
    if is_label word
    then (do
      label ← read_at (length words + 1) (name_at (before_last word))
      named ← check (is_new before (Some label)) (fault_at (length words + 1) fault.NameTwice)
      labelled_behind before label words)
    else (if is_directive word then directive_behind before word words
    else row_behind before None word words)

-- the words of a line after these lines
unfoldable pub words_behind : List (Line Name) → List (List ℕ) →
    Result (Option (Statement Name)) WordFault
words_behind before [] = Ok None
words_behind before (word ∷ words) =
    statement_behind before word words >>= (λ said. Ok (Some said))

-- a line after these lines: a fault of its bytes is of none of its words
unfoldable pub line_behind : List (Line Name) → List ℕ →
    Result (Option (Statement Name)) WordFault
line_behind before text = read_at 0 (line_words text) >>= words_behind before
