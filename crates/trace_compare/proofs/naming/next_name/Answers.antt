use Rattle.std.proofs.lemmas.Grind.{common_steps}
use Rattle.std.proofs.Common.{arith, ◌≡◌, ◌∙◌, ap, sym, subst}
use Rattle.trace_compare.specs.{NamedLines.HasEnded, NamedLines.last_naming, NamedLines.next_by, Naming.line_names}
use Rattle.trace_compare.proofs.NamedLines.{line-last, line-made}
use Rattle.trace_compare.proofs.naming.next_name.Goals as goal

pub returns-clause-made : goal.returns-clause-made
returns-clause-made g c = grind (arith, common_steps, line-made)

pub returns-clause-last : goal.returns-clause-last
returns-clause-last g c = λ name is isnt n.
    let line = c.read_line.new.self.line in
    let named : next_by (line_names line) c.in_ok-ended.ended ≡ c.next_by.result =
    sym (c.next_by.ensures ∙ ap (λ named. next_by named c.in_ok-ended.ended) (c.line_names.ensures.names ∙ ap line_names c.line.ensures)) in
    let here : c.next_by.result ≡ name = cc in
    subst (λ next. HasEnded n (last_naming next n) c.args.lines.now c.read_line.new.self (g.S.Source.left c.args.trace.now)
    (g.S.Source.left c.read_line.new.source)) (named ∙ here)
    (line-last c.in_ok-ended.ended line c.in_ok-ended.ensures.one c.in_ok-ended.ensures.came
    (λ choice e. isnt choice (sym (named ∙ here) ∙ e)) c.in_ok-ended.ensures.bytes)
