use Rattle.std.proofs.Common.{◌≡◌, ◌++◌, drop}
use Rattle.std.specs.List.{flat_map}
use Rattle.line_reader.specs.Listing.{line_text, numbered}
use Rattle.commands.specs.Rows.{image_row_words}
use Rattle.commands.proofs.image_rows.push_image_rows.Given as goal

abbrev pub invariant-loop-n : goal.invariant-loop-n
invariant-loop-n l =
    l.listing.items ++ flat_map line_text (numbered image_row_words l.n (drop l.n l.rows))
    ≡ l.initial.listing.items ++ flat_map line_text (numbered image_row_words 0 l.rows)
