use Rattle.std.proofs.Common.{sym, subst}
use Rattle.vuthgal_c.specs.Sessions.{IsFirstOf}
use Rattle.vuthgal_c.proofs.sessions.boxed.Goals as goal

pub returns-in-Ok-new-clause-first : goal.returns-in-Ok-new-clause-first
returns-in-Ok-new-clause-first c = subst (IsFirstOf c.args.file.now) (sym c.in-Ok-new.ensures.ok) c.in-Ok.ensures.first
