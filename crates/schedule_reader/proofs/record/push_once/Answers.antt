use Rattle.std.proofs.{Common.arith, lemmas.Grind.common_steps}
use Rattle.schedule_reader.proofs.Records.{token-long, token-short}
use Rattle.schedule_reader.proofs.record.push_once.Goals as goal

pub returns : goal.returns
returns c = grind (arith, common_steps, token-long, token-short)
