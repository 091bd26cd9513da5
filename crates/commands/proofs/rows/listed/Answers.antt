use Rattle.std.proofs.Common.{◌∙◌, sym}
use Rattle.commands.proofs.ListedRows.{image_listed, text_rows_listed}
use Rattle.commands.proofs.rows.listed.Goals as goal

pub returns-then-is_image_file : goal.returns-then-is_image_file
returns-then-is_image_file c =
    image_listed c.args.program.now.bytes.now c.args.program.now.image c.args.program.now.names c.listed_image.result c.requires
    (sym c.is_image_file.ensures ∙ c.if-is_image_file.true) c.listed_image.ensures

pub returns-else-is_image_file : goal.returns-else-is_image_file
returns-else-is_image_file c =
    text_rows_listed c.args.program.now.bytes.now c.rows.result.now c.args.program.now.image c.args.program.now.names c.rows_in_text.result
    c.requires (sym c.is_image_file.ensures ∙ c.if-is_image_file.false) c.rows.ensures c.rows_in_text.ensures
