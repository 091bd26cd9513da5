use Rattle.std.proofs.Common.{List, ℕ, ◌≡◌, ◌∙◌, ap, arith, decimal, drop, false, length, sym, take, true}
use Rattle.std.proofs.lemmas.List.{append_cancel_left}
use Rattle.trace_compare.proofs.OwnLines.{begun_whole}
use Rattle.trace_compare.proofs.comparison.Comparison.meet.Goals as goal
use Rattle.trace_text.proofs.WholeLines.{decimal-number}

pub returns-then-begins_with-clause-missed : goal.returns-then-begins_with-clause-missed
returns-then-begins_with-clause-missed c = λ none.
    absurd (omega (arith, none, c.count-digits.ensures.digits, (decimal-number c.args.self.now.next).some))

pub returns-clause-missed : goal.returns-clause-missed
returns-clause-missed c = λ _.
    let self = c.args.self.now in
    let number = decimal self.next in
    let bytes = c.args.bytes.now in
    let rest : c.rest_of.result.now ≡ drop (length number) bytes =
    c.rest_of.ensures.rest ∙ ap (λ n. drop n bytes) c.count-digits.ensures.digits in (
      λ whole. c.begins_with.ensures.other c.if-begins_with.false
          (ap (λ (line : List ℕ). take (length line) c.rest_of.result.now) c.as_slice-behind.ensures
          ∙ ap (take (length self.expected)) rest
          ∙ append_cancel_left number _ self.expected (sym (begun_whole number self.expected bytes c.requires.begun) ∙ whole)
          ∙ sym c.as_slice-behind.ensures),
      ap (λ text. record self { accepted = false; missed = true; expected = text }) c.put_digits.ensures.text,
    )
