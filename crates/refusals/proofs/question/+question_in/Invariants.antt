use Rattle.std.proofs.Common.{length}
use Rattle.refusals.proofs.question.+question_in.Given as goal

abbrev pub decreases-question_in : goal.decreases-question_in
decreases-question_in l = length l.entries.now
