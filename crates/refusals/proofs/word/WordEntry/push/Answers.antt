use Rattle.refusals.proofs.word.WordEntry.push.Goals as goal

pub returns-clause-bytes : goal.returns-clause-bytes
returns-clause-bytes g c = rw c.more_of.ensures at c.push_lines.ensures.bytes
