-- The rows of an image.
use Rattle.std.specs.Prelude.{◌≤◌, Bool, List, length, All}
use Rattle.std.specs.List.{list_any}
use Rattle.instruction_table.specs.{declared.row.Row.Row, Row.is_timed_row}
use Rattle.row_code.specs.RowFields.{IsRow}

-- at most as many rows as a count of two bytes can say
abbrev pub AreRows : List Row → Type 0
AreRows rows = (length rows ≤ 65535) × All IsRow rows

-- whether one of them has a timeout
abbrev pub has_timed_row : List Row → Bool
has_timed_row rows = list_any is_timed_row rows
