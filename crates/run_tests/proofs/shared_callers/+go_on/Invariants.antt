use Rattle.std.proofs.Common.{length}
use Rattle.run_tests.proofs.shared_callers.+go_on.Given as goal

abbrev pub decreases-go_on : goal.decreases-go_on
decreases-go_on l = length l.calls.now
