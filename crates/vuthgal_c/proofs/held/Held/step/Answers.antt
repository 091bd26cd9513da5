use Rattle.std.proofs.Common.{rules, refl, subst}
use Rattle.vuthgal_c.specs.Sessions.{HasStepped, Kept}
use Rattle.vuthgal_c.proofs.Events.{has_stepped}
use Rattle.vuthgal_c.proofs.held.Held.step.Goals as goal

pub returns-in-Ok-clause-done : goal.returns-in-Ok-clause-done
returns-in-Ok-clause-done c =
    let next : Kept = record { debugger = c.step.new.self; reply = c.self.inside.reply.items; image = c.self.inside.image } in
    subst (λ (k : Kept). HasStepped k c.args.choice next c.event_look.result) c.self.view_is
    (has_stepped (record { debugger = c.self.inside.debugger; reply = c.self.inside.reply.items; image = c.self.inside.image }) next c.args.choice c.in-Ok.event _ _ _
    c.in-Ok.ensures.accepted c.in-Ok.ensures.played c.in-Ok.ensures.session refl refl (search rules) (search rules) c.event_look.ensures)
