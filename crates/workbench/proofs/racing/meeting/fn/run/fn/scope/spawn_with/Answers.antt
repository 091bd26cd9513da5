use Rattle.std.proofs.Common.{rules}
use Rattle.workbench.proofs.racing.meeting.fn.run.fn.scope.spawn_with.Goals as goal

pub returns : goal.returns
returns g c = search rules
