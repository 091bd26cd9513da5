-- The image of a text, or the first fault of the text. First every line is read, and then every name is looked up.
use Rattle.std.specs.Prelude.{ℕ, ◌+◌, not, List, [], ◌∷◌, ◌++◌, find, Option, Some, None, Result, Ok, Err}
use Rattle.row_code.specs.{declared.image.Image.Image, Answers.◌>>=◌}
use Rattle.line_reader.specs.declared.{asm_fault.AsmFault.AsmFault, asm_fault.WordFault.WordFault, statement.Line.Line}
use Rattle.line_reader.specs.{declared.statement.Statement.Statement, Words.lines_of, Symbols.Name}
use Rattle.line_reader.specs.declared.asm_fault.AsmFaultKind.TheVariants as fault
use Rattle.assembler.specs.{Meaning.are_known, Meaning.image_of, Reading.line_behind}

-- the lines before, and then what the line of this number says
abbrev pub behind : List (Line Name) → ℕ → Result (Option (Statement Name)) WordFault →
    Result (List (Line Name)) AsmFault
behind before n (Ok None) = Ok before
behind before n (Ok (Some said)) = Ok (before ++ (record { number = n; statement = said } ∷ []))
behind before n (Err wrong) = Err (record { line = n; kind = wrong.kind })

-- the first pass: the lines before, and then what the lines from this number on say; or the fault of the first line that has
-- one
unfoldable pub lines_read : ℕ → List (Line Name) → List (List ℕ) →
    Result (List (Line Name)) AsmFault
lines_read n before [] = Ok before
lines_read n before (text ∷ texts) = do
  lines ← behind before n (line_behind before text)
  lines_read (n + 1) lines texts

-- the second pass: the first line that refers to a name that is not known
abbrev pub first_unknown : List (Line Name) → Option (Line Name)
first_unknown lines = find (λ line. not (are_known lines line.statement)) lines

abbrev pub looked_up : List (Line Name) → Option (Line Name) → Result Image AsmFault
looked_up lines None = Ok (image_of lines)
looked_up lines (Some line) = Err (record { line = line.number; kind = fault.UnknownName })

-- a text's image, or its fault
unfoldable pub assembled : List ℕ → Result Image AsmFault
assembled text = do
  lines ← lines_read 1 [] (lines_of text)
  looked_up lines (first_unknown lines)
