use Rattle.std.proofs.Common.{length}
use Rattle.refusals.proofs.question.+question_among.Given as goal

abbrev pub decreases-question_among : goal.decreases-question_among
decreases-question_among l = length l.tables.now
