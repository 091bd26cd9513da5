use Rattle.std.proofs.{Common.arith, lemmas.Grind.common_steps}
use Rattle.schedule_reader.proofs.Numbers.{times-digit, times-too_far}
use Rattle.schedule_reader.proofs.place.times_digit.Goals as goal

pub returns-then-digits-eq10-clause-reading : goal.returns-then-digits-eq10-clause-reading
returns-then-digits-eq10-clause-reading c part = grind (arith, common_steps, times-too_far)

pub returns-clause-reading : goal.returns-clause-reading
returns-clause-reading c part = grind (arith, common_steps, times-digit)
