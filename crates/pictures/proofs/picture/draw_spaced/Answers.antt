use Rattle.std.proofs.Common.{◌≡◌, ◌∙◌, ◌++◌, ◌*◌, ap, ap₂}
use Rattle.std.proofs.lemmas.Result.{on_ok_weaker}
use Rattle.thread_machine.specs.World.{world_of}
use Rattle.pictures.specs.Picture.{block_lines, lines_text}
use Rattle.pictures.proofs.Cells.{spaced}
use Rattle.pictures.proofs.picture.draw_spaced.Goals as goal

pub returns : goal.returns
returns c =
    let sheet = c.args.pen.now.sheet in
    let start = c.args.text.now.items in
    let block = block_lines sheet c.args.pen.now.symbols.now (world_of c.args.machine.now) c.args.choices.now in
    let first : c.from.result * c.from-2.result ≡ c.args.number * sheet.beside =
    ap₂ (λ n m. n * m) c.from.ensures c.from-2.ensures in
    on_ok_weaker c.push_line.result
    (spaced sheet.width (block (c.args.number * sheet.beside)) start c.draw_block.new.text.items c.push_line.new.text.items
    (c.in_ok-draw_block.ensures.block ∙ ap (λ n. start ++ lines_text sheet.width (block n)) first)) c.push_line.ensures
