use Rattle.std.proofs.Common.{ℕ, ◌<◌, slice_index_or, ◌≡◌, ◌++◌, drop, map}
use Rattle.std.specs.List.{flat_map}
use Rattle.instruction_table.specs.declared.row.Row.{Row}
use Rattle.row_code.specs.RowFields.{IsRow}
use Rattle.line_reader.specs.Listing.{line_text, row_words}
use Rattle.line_reader.proofs.listing.rows.push_rows.Given as goal

abbrev pub invariant-loop-row : goal.invariant-loop-row
invariant-loop-row l = record {
  text : l.text.items ++ flat_map line_text (map row_words (drop l.row-index l.rows))
      ≡ l.initial.text.items ++ flat_map line_text (map row_words l.rows);
  fits : (k : ℕ) → (d : Row) → k < l.row-index → IsRow (slice_index_or l.rows k d);
}
