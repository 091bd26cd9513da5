use Rattle.std.proofs.Common.{◌∙◌, ◌++◌, ◌∷◌, ap, sym}
use Rattle.std.proofs.lemmas.Fmt.{decimal_digit}
use Rattle.trace_text.proofs.line.put_spaced.Goals as goal

pub returns-then-number-lt10-clause-text : goal.returns-then-number-lt10-clause-text
returns-then-number-lt10-clause-text c =
    c.put_word.ensures.text ∙ ap (λ digits. digits ++ 32 ∷ c.args.line.now) (sym (decimal_digit c.args.number c.if-number-lt10.true))
