use Rattle.std.proofs.Common.{◌++◌, ◌+◌, ◌∙◌, ap, sym, drop, map, append_assoc}
use Rattle.std.specs.List.{flat_map}
use Rattle.row_code.specs.RowFields.{IsRow}
use Rattle.line_reader.specs.Listing.{line_text, row_words}
use Rattle.line_reader.proofs.ListedTexts.{lines-drop, one_more}
use Rattle.line_reader.proofs.listing.rows.push_rows.Goals as goal

pub loop-row-preserved : goal.loop-row-preserved
loop-row-preserved c =
    let rows = c.args.rows.now in
    let n = c.loop-row.row-index in
    let before = c.loop-row.text.items in
    record {
      text = ap (λ text. text ++ flat_map line_text (map row_words (drop (n + 1) rows))) c.in_ok-push_row.ensures.text
          ∙ append_assoc before _ _
          ∙ ap (λ lines. before ++ lines) (sym (lines-drop row_words rows n _ c.loop-row-test.true))
          ∙ c.loop-row.invariant.text;
      fits = one_more IsRow rows n _ c.loop-row-test.true c.loop-row.invariant.fits c.push_row.ensures.fits;
    }
