use Rattle.std.proofs.Common.{inr}
use Rattle.vuthgal_c.proofs.sessions.held_of.Goals as goal

pub returns-in-Err-first_debugger-clause-none : goal.returns-in-Err-first_debugger-clause-none
returns-in-Err-first_debugger-clause-none c =
    inr (inr (inr (c.in-Ok.program.image, (c.in-Ok.ensures.image, c.in-Err-first_debugger.ensures.none))))
