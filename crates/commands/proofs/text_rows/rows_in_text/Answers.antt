use Rattle.std.proofs.Common.{rules, ◌≡◌, map}
use Rattle.line_reader.specs.{Seen.name_seen, Words.is_line_end}
use Rattle.std.specs.List.{slice_split}
use Rattle.commands.proofs.ListedRows.{rows_by_pieces}
use Rattle.commands.proofs.text_rows.rows_in_text.Goals as goal

pub returns : goal.returns
returns c =
    let pieces : map name_seen c.as_slice.result.now ≡ slice_split is_line_end c.args.text.now = search rules in
    rows_by_pieces c.args.text.now _ c.args.numbers.now _ _ pieces c.new-listing.ensures.items
    c.in_ok-push_text_rows.ensures
