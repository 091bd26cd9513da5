use Rattle.std.proofs.{Common.arith, lemmas.Grind.common_steps, lemmas.Bool.Decides.nat_tests}
use Rattle.schedule_reader.proofs.Records.{record-first, record-more}
use Rattle.schedule_reader.proofs.record.push_choice.Goals as goal

pub returns : goal.returns
returns c = grind (arith, common_steps, nat_tests, record-more, record-first)
