use Rattle.std.proofs.Common.{◌∙◌, codes}
use Rattle.std.specs.Fmt.{decimal}
use Rattle.vuthgal_c.proofs.Faults.{pieces_pushed}
use Rattle.vuthgal_c.proofs.planning.push_stopped.Goals as goal

pub returns-clause-bytes : goal.returns-clause-bytes
returns-clause-bytes g c =
    pieces_pushed c.push-3.result _ _ _ _ (codes "stopped at ") _ (decimal c.args.most) (codes " choices\n")
    (c.as_bytes.ensures.value ∙ c.format.ensures.text) c.in_ok-push.ensures.bytes c.in_ok-push-2.ensures.bytes c.push-3.ensures.bytes
