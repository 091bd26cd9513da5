use Rattle.std.proofs.Common.{◌∙◌, ap, map, refl}
use Rattle.std.proofs.lemmas.Result.{IfOk-weaker}
use Rattle.clap.specs.Words.{found_of}
use Rattle.command_line.proofs.Words.{words-got}
use Rattle.command_line.proofs.request.words.Goals as goal

pub returns : goal.returns
returns c =
    IfOk-weaker c.from_slice.result _ _ (λ words is. ap (map (λ w. w.now)) (is ∙ ap (λ s. s.now) c.unwrap_or.ensures)
    ∙ words-got (found_of c.args.matches.now) c.args.place.now c.get_strs.result _ refl c.get_strs.ensures) c.from_slice.ensures.items
