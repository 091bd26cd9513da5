use Rattle.std.proofs.Common.{length}
use Rattle.refusals.proofs.question.+fitted_one.Given as goal

abbrev pub decreases-fitted_one : goal.decreases-fitted_one
decreases-fitted_one l = length l.patterns.now
