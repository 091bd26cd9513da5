use Rattle.std.proofs.{Common.arith, lemmas.Grind.common_steps}
use Rattle.schedule_reader.proofs.Numbers.{thread-digit, thread-too_far}
use Rattle.schedule_reader.proofs.place.thread_digit.Goals as goal

pub returns-then-digits-eq2-clause-reading : goal.returns-then-digits-eq2-clause-reading
returns-then-digits-eq2-clause-reading c part = grind (arith, common_steps, thread-too_far)

pub returns-clause-reading : goal.returns-clause-reading
returns-clause-reading c part = grind (arith, common_steps, thread-digit)
