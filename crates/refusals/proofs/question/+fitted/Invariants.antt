use Rattle.std.proofs.Common.{length}
use Rattle.refusals.proofs.question.+fitted.Given as goal

abbrev pub decreases-fitted : goal.decreases-fitted
decreases-fitted l = length l.pattern.now
