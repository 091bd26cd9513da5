use Rattle.std.proofs.Common.{sym}
use Rattle.schedule_reader.proofs.Streams.{takes-blank, takes-blank_fault, takes-byte}
use Rattle.schedule_reader.proofs.reader.read_byte.Goals as goal

pub returns-in-Ok-clause-takes : goal.returns-in-Ok-clause-takes
returns-in-Ok-clause-takes c =
    takes-blank c.args.place c.args.at c.args.byte c.args.runs.now.items c.end_token.new.runs.items (sym c.if-is_blank.ensures) c.in-Ok.ensures.takes

pub returns-in-Err-clause-takes : goal.returns-in-Err-clause-takes
returns-in-Err-clause-takes c =
    takes-blank_fault c.args.place c.args.at c.args.byte c.args.runs.now.items c.end_token.new.runs.items c.in-Err.fault (sym c.if-is_blank.ensures) c.in-Err.ensures.takes

pub returns-else-is_blank-clause-takes : goal.returns-else-is_blank-clause-takes
returns-else-is_blank-clause-takes c =
    takes-byte c.args.place c.args.at c.args.byte c.args.runs.now.items c.with_byte.result (sym c.if-is_blank.ensures) c.with_byte.ensures.reading c.with_byte.ensures.inside

pub returns-else-is_blank-clause-room : goal.returns-else-is_blank-clause-room
returns-else-is_blank-clause-room c room = c.with_byte.ensures.memory
