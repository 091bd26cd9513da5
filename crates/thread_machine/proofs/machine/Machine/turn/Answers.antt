use Rattle.std.proofs.Common.{◌<◌, arith, sym, subst}
use Rattle.thread_machine.specs.World.{StoredWorld}
use Rattle.thread_machine.proofs.Sound.{one_step_more}
use Rattle.thread_machine.proofs.machine.Machine.turn.Goals as goal

pub invariant_of-self : goal.invariant_of-self
invariant_of-self c =
    let inside = c.self.inside in
    let left = subst (λ (w : StoredWorld). w.steps < w.limit) (sym c.self.view_is) c.requires.steps in
    let more = subst (λ (w : StoredWorld). w.choices < 1000000000000) (sym c.self.view_is) c.requires.choices in
    one_step_more inside.program inside.limit inside.choices inside.steps inside.stage c.turn.new.self c.self.invariant
    left more (λ few. c.in-Ok.ensures.ok.sound inside.steps (omega (arith, few))) c.in-Ok.ensures.known
