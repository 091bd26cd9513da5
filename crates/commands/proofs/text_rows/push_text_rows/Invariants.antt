use Rattle.std.proofs.Common.{◌≡◌, ◌++◌, drop, map}
use Rattle.std.specs.List.{flat_map}
use Rattle.line_reader.specs.{Seen.name_seen, Listing.line_text, Listing.numbered}
use Rattle.commands.specs.Rows.{text_row_words}
use Rattle.commands.proofs.text_rows.push_text_rows.Given as goal

abbrev pub invariant-loop-row : goal.invariant-loop-row
invariant-loop-row l =
    let words = text_row_words (map name_seen l.lines) in
    l.listing.items ++ flat_map line_text (numbered words l.row (drop l.row l.numbers))
    ≡ l.initial.listing.items ++ flat_map line_text (numbered words 0 l.numbers)
