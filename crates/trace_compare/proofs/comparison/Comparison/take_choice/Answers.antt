use Rattle.std.proofs.Common.{◌∙◌, ◌+◌, ◌++◌, ◌∷◌, [], ap, false, refl, sym}
use Rattle.std.proofs.lemmas.Slice.Eq.{bytes_eq-Decides}
use Rattle.std.specs.Str.{bytes_eq}
use Rattle.thread_machine.specs.World.{world_of}
use Rattle.trace_text.specs.Reading.{choice_in}
use Rattle.trace_compare.specs.Compare.{choices_in, line_at, lines_verdict}
use Rattle.trace_compare.proofs.RunLines.{first-own, kept-own, meets-choice, text-choice}
use Rattle.trace_compare.proofs.Verdicts.{choice-same}
use Rattle.trace_compare.proofs.comparison.Comparison.take_choice.Goals as goal

pub returns-clause-verdict : goal.returns-clause-verdict
returns-clause-verdict c = λ lines.
    let self = c.args.self.now in
    choice-same (choice_in c.args.line.now) c.in-Some.choice self.accepted c.in-Ok.accepted (world_of self.machine) (world_of c.line_of_choice.new.machine)
    self.number c.args.line.now c.line_of_choice.new.line
    (λ accepted after. lines_verdict accepted after (self.number + 1) lines)
    (sym c.choice_in.ensures ∙ c.in-Some.is) c.if-not-self.false (ap (bytes_eq (c.args.line.now ++ (10 ∷ []))) (sym c.as_slice.ensures) ∙ sym c.is_line.ensures ∙ c.if-not-is_line.false) c.in-Ok.ensures

pub returns-then-not-is_line-clause-meets : goal.returns-then-not-is_line-clause-meets
returns-then-not-is_line-clause-meets c = λ lines state no_state.
    let self = c.args.self.now in (
      refl,
      ap (line_at 0)
          (text-choice self c.in-Some.choice c.args.line.now lines state c.if-not-self.false no_state (sym c.choice_in.ensures ∙ c.in-Some.is))
          ∙ first-own (world_of self.machine) c.in-Some.choice (choices_in lines) ∙ ap (line_at 0) (sym c.in-Ok.ensures.lines)
          ∙ kept-own (record self { machine = c.line_of_choice.new.machine; expected = c.line_of_choice.new.line }) state c.if-not-self.false,
    )

pub returns-clause-meets : goal.returns-clause-meets
returns-clause-meets c = λ lines state no_state.
    let self = c.args.self.now in
    let line = c.args.line.now in
    let text = c.line_of_choice.new.line in
    let accepted = c.in-Ok.accepted in
    meets-choice self
    (record self { machine = c.line_of_choice.new.machine; expected = text; accepted = accepted; missed = false; number = self.number + 1 })
    c.in-Some.choice accepted line text lines state c.if-not-self.false state refl (λ refused. refl) no_state
    (sym c.choice_in.ensures ∙ c.in-Some.is)
    ((bytes_eq-Decides (line ++ (10 ∷ [])) text).0
    (ap (bytes_eq (line ++ (10 ∷ []))) (sym c.as_slice.ensures) ∙ sym c.is_line.ensures ∙ c.if-not-is_line.false)) c.in-Ok.ensures
