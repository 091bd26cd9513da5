use Rattle.std.proofs.Common.{◌≡◌, ◌∙◌, ◌+◌, ◌-◌, ◌++◌, ◌∷◌, [], ap, arith, drop, length, length-append, sym, length-take}
use Rattle.std.proofs.lemmas.{Grind.common_steps, Slice.Eq.bytes_eq-Decides}
use Rattle.trace_compare.proofs.{RunLines.due-parts, Verdicts.state-further, Verdicts.not_empty}
use Rattle.trace_compare.proofs.comparison.Comparison.take_state_line.Goals as goal

pub returns-clause-verdict : goal.returns-clause-verdict
returns-clause-verdict c = grind (arith, common_steps, state-further, not_empty)

pub returns-clause-meets : goal.returns-clause-meets
returns-clause-meets c = λ lines state.
    let self = c.args.self.now in
    rw state
    (due-parts self.text.items c.rest_of-due.result.now self.at c.min-end.result c.args.line.now c.first_bytes.result.now
    (c.rest_of-due.ensures.rest ∙ ap (drop self.at) c.as_slice-text.ensures.value)
    (sym c.is_line.ensures ∙ c.if-not-is_line.false) c.first_bytes.ensures)

pub returns-clause-behind : goal.returns-clause-behind
returns-clause-behind c = λ _.
    let self = c.args.self.now in
    let line = c.args.line.now in
    let part = c.first_bytes.result.now in
    let due = c.rest_of-due.result.now in
    let same = sym c.is_line.ensures ∙ c.if-not-is_line.false in
    let size : length line + 1 ≡ c.min-end.result =
    omega (
      arith,
      length-append line (10 ∷ []),
      ap length ((bytes_eq-Decides (line ++ (10 ∷ [])) part).0 same ∙ c.first_bytes.ensures),
      length-take c.min-end.result due,
      c.min-end.ensures,
    ) in
    let at : (self.at + c.min-end.result) - (length line + 1) ≡ self.at = omega (arith, size) in (
      omega (arith, size),
      ap (λ k. drop k self.text.items) at
          ∙ due-parts self.text.items due self.at c.min-end.result line part
          (c.rest_of-due.ensures.rest ∙ ap (drop self.at) c.as_slice-text.ensures.value) same c.first_bytes.ensures,
    )
