use Rattle.refusals.proofs.Pushing.{then}
use Rattle.refusals.proofs.entry.Entry.push.Goals as goal

pub returns-clause-bytes : goal.returns-clause-bytes
returns-clause-bytes g c =
    then c.push_words.result _ _ _ _ _ c.in_ok-push_line.ensures.bytes c.push_words.ensures.bytes
