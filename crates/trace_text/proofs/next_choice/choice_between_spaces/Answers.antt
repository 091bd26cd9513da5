use Rattle.std.proofs.Common.{sym}
use Rattle.trace_text.proofs.NamedChoices.{letter_x, letter_t, named_by_one, named_by_two}
use Rattle.trace_text.proofs.next_choice.choice_between_spaces.Goals.{else-not-expiry-via-then-not-expiry+else-bytes-ne116, else-not-expiry-via-else-not-expiry}
use Rattle.trace_text.proofs.next_choice.choice_between_spaces.Goals as goal

pub returns-then-bytes-eq32 : goal.returns-then-bytes-eq32
returns-then-bytes-eq32 c =
    named_by_one c.args.bytes.now _ c.if-bytes-lt5.false c.if-bytes-ne32.false
    (elim c.else-not-expiry.branch [
      | else-not-expiry-via-then-not-expiry+else-bytes-ne116 w ↦ letter_t _ w.if-bytes-ne116.false
      | else-not-expiry-via-else-not-expiry w ↦ letter_x _ w.if-not-expiry.false
    ])
    (sym c.if-not-is_ascii_digit.ensures.value) c.if-bytes-eq32.true

pub returns : goal.returns
returns c =
    named_by_two c.args.bytes.now _ c.if-bytes-lt5.false c.if-bytes-ne32.false
    (elim c.else-not-expiry.branch [
      | else-not-expiry-via-then-not-expiry+else-bytes-ne116 w ↦ letter_t _ w.if-bytes-ne116.false
      | else-not-expiry-via-else-not-expiry w ↦ letter_x _ w.if-not-expiry.false
    ])
    (sym c.if-not-is_ascii_digit.ensures.value) c.if-first-eq0.false (sym c.if-not-is_ascii_digit-2.ensures.value)
    c.if-bytes-ne32-2.false c.if-thread-gt63.false
