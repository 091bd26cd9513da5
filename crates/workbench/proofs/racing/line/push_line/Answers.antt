use Rattle.std.proofs.Common.{◌∙◌}
use Rattle.packed_phaser.specs.Word.{record_of}
use Rattle.workbench.proofs.RaceLine.{line-pushed}
use Rattle.workbench.proofs.racing.line.push_line.Goals as goal

pub returns-clause-bytes : goal.returns-clause-bytes
returns-clause-bytes g c =
    line-pushed c.push.result _ _ _ _ _ (record_of c.args.word) c.phase_of.result c.from.result c.from-2.result
    c.phase_of.ensures (c.from.ensures ∙ c.parties.ensures) (c.from-2.ensures ∙ c.unarrived.ensures)
    c.in_ok-push_with_count.ensures.bytes c.in_ok-push_with_count-2.ensures.bytes c.in_ok-push_with_count-3.ensures.bytes c.push.ensures.bytes
