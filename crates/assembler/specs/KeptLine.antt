-- A line as it is stored until its names are looked up, and what it says. Only proofs use this: no promise depends on it.
use Rattle.std.specs.Prelude.{ℕ, Bool, true, false, Some, None}
use Rattle.assembler.specs.declared.kept_line.KeptLine.{KeptLine}
use Rattle.assembler.specs.declared.kept_line.KeptLine.TheVariants as line
use Rattle.line_reader.specs.{declared.statement.Statement.Statement, declared.statement.Line.Line, KeptRow.row_kept}
use Rattle.line_reader.specs.{Seen.barrier_seen, Seen.phaser_seen, Seen.thread_seen, Symbols.Name}
use Rattle.line_reader.specs.declared.statement.Statement.TheVariants as statement

-- what a line says, and its number
abbrev pub statement_kept : KeptLine → Statement Name
statement_kept (line.Phaser number phaser) = statement.Phaser (phaser_seen phaser.value)
statement_kept (line.Barrier number barrier) = statement.Barrier (barrier_seen barrier.value)
statement_kept (line.Thread number thread) = statement.Thread (thread_seen thread)
statement_kept (line.Cell number name) = statement.Cell name.now
statement_kept (line.Label number name) = statement.Label name.now
statement_kept (line.Row number row) = statement.Row None (row_kept row)
statement_kept (line.LabelledRow number label row) = statement.Row (Some label.now) (row_kept row)

abbrev pub number_kept : KeptLine → ℕ
number_kept (line.Phaser number phaser) = number
number_kept (line.Barrier number barrier) = number
number_kept (line.Thread number thread) = number
number_kept (line.Cell number name) = number
number_kept (line.Label number name) = number
number_kept (line.Row number row) = number
number_kept (line.LabelledRow number label row) = number

abbrev pub line_kept : KeptLine → Line Name
line_kept line = record { number = number_kept line; statement = statement_kept line }

-- whether a statement is a row
abbrev pub is_row : Statement Name → Bool
is_row (statement.Row label row) = true
is_row _ = false
