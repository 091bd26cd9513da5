use Rattle.std.proofs.Common.{sym}
use Rattle.schedule_reader.proofs.Turns.{begins-3, begins-4}
use Rattle.schedule_reader.proofs.reader.turn_before_space.Goals as goal

pub returns-then-bytes-eq32 : goal.returns-then-bytes-eq32
returns-then-bytes-eq32 c = record {
  turn = begins-3 c.args.bytes.now c.if-bytes-lt4.false c.if-bytes-ne116.false (sym c.if-not-is_ascii_digit.ensures.value) c.if-bytes-eq32.true;
}

pub returns : goal.returns
returns c = record {
  turn = begins-4 c.args.bytes.now c.if-bytes-lt4.false c.if-bytes-ne116.false (sym c.if-not-is_ascii_digit.ensures.value)
      (sym c.if-not-is_ascii_digit-2.ensures.value) c.if-bytes-ne32.false c.if-thread-gt-LAST_THREAD.false;
}
