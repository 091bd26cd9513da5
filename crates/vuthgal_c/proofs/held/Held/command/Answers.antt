use Rattle.std.proofs.Common.{rules, refl}
use Rattle.vuthgal_c.proofs.held.Held.command.Goals as goal

-- the reply is the text that came to the sink
pub returns-in-None-clause-lost : goal.returns-in-None-clause-lost
returns-in-None-clause-lost c = λ _.
    let replied = c.if-not-is_answered.ensures.done refl in
    (c.is_answered.new.debugger, (replied.0, (search rules, search rules)))
