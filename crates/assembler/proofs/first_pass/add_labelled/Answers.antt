use Rattle.std.proofs.Common.{sym}
use Rattle.assembler.specs.KeptLine.{statement_kept}
use Rattle.assembler.proofs.SpelledLines.{statement_takes}
use Rattle.assembler.proofs.first_pass.add_labelled.Goals as goal

pub push-requires : goal.push-requires
push-requires c =
    (statement_takes c.args.draft.now _ _ (statement_kept c.in_ok-line.line) (sym c.in_ok-line.ensures.said)).1
