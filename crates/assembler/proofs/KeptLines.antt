-- What a line is kept as: a row where there is room for one, and a directive, which is no code.
use Rattle.std.proofs.Common.{◌≡◌, ℕ, ◌+◌, Bool, true, false, List, length, Option, None, Ok, Err, refl, sym, arith}
use Rattle.line_reader.specs.declared.asm_fault.AsmFaultKind.TheVariants as fault
use Rattle.line_reader.specs.declared.{statement.Line.Line, statement.Statement.Statement, symbolic_row.SymbolicRow.SymbolicRow}
use Rattle.line_reader.specs.{Reading.directive_at, Reading.fault_at, Reading.is_directive, Reading.row_at, Symbols.Name}
use Rattle.line_reader.specs.declared.statement.Statement.TheVariants as statement
use Rattle.assembler.specs.Reading.{directive_behind, row_behind}
use Rattle.assembler.specs.Statements.{Follows, has_room, is_code}
use Rattle.assembler.proofs.SpelledLines.{directive_behind_takes, row_behind_takes}

pub row_taken : (before : List (Line Name)) (label : Option Name) (word : List ℕ) (words : List (List ℕ)) (row : SymbolicRow Name)
    (room : Bool) → Ok row ≡ row_at word words → room ≡ has_room before (statement.Row label row) → room ≡ true →
    Ok (statement.Row label row) ≡ row_behind before label word words
unfolding row_behind
row_taken before label word words row true read room is = rw (sym read, sym room) refl
row_taken before label word words row false read room is = absurd (cc)

pub row_refused : (before : List (Line Name)) (label : Option Name) (word : List ℕ) (words : List (List ℕ)) (row : SymbolicRow Name)
    (room : Bool) → Ok row ≡ row_at word words → room ≡ has_room before (statement.Row label row) → room ≡ false →
    Err (fault_at (length words + 1) fault.TooMany) ≡ row_behind before label word words
unfolding row_behind
row_refused before label word words row false read room is = rw (sym read, sym room) refl
row_refused before label word words row true read room is = absurd (cc)

pub directive_no_code : (word : List ℕ) (words : List (List ℕ)) (s : Statement Name) → Ok s ≡ directive_at word words →
    is_code s ≡ false
unfolding directive_at
directive_no_code word words s e = grind arith

pub directive_follows : (before : List (Line Name)) (word : List ℕ) (words : List (List ℕ)) (s : Statement Name) →
    is_directive word ≡ true → Ok s ≡ directive_behind before word words → Follows before s
directive_follows before word words s known e = (directive_behind_takes before word words s known (sym e)).1

pub row_follows : (before : List (Line Name)) (word : List ℕ) (words : List (List ℕ)) (row : SymbolicRow Name) →
    Ok (statement.Row None row) ≡ row_behind before None word words → Follows before (statement.Row None row)
row_follows before word words row e = grind (arith, row_behind_takes)
