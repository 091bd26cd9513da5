use Rattle.std.proofs.Common.{◌∙◌, ap, refl}
use Rattle.command_line.specs.Request.{rows_in}
use Rattle.command_line.proofs.Words.{word-got}
use Rattle.command_line.proofs.request.word.Goals as goal

pub returns : goal.returns
returns c =
    ap (λ s. s.now) c.unwrap_or.ensures
    ∙ word-got (rows_in c.args.matches.now) c.args.place.now c.word_given.result _ refl c.word_given.ensures
