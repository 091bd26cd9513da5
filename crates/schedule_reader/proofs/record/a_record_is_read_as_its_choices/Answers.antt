use Rattle.schedule_reader.proofs.Records.{record-read}
use Rattle.schedule_reader.proofs.record.a_record_is_read_as_its_choices.Goals as goal

pub returns : goal.returns
returns c = λ choices all. record-read choices all
