use Rattle.std.proofs.{Common.arith, lemmas.Grind.common_steps}
use Rattle.schedule_reader.proofs.Runs.{again, joined-again, joined-first, joined-own, spelled-own}
use Rattle.schedule_reader.proofs.run.push_joined.Goals as goal

pub returns-in-Some-clause-choices : goal.returns-in-Some-clause-choices
returns-in-Some-clause-choices c = grind (arith, common_steps, again)

pub returns-in-Some-clause-joined : goal.returns-in-Some-clause-joined
returns-in-Some-clause-joined c = grind (arith, common_steps, joined-again)

pub returns-clause-runs : goal.returns-clause-runs
returns-clause-runs c = grind (arith, common_steps, spelled-own)

pub returns-clause-joined : goal.returns-clause-joined
returns-clause-joined c = grind (arith, common_steps, joined-own, joined-first)
