use Rattle.std.proofs.Common.{arith}
use Rattle.thread_machine.proofs.Sound.{one_step_more}
use Rattle.thread_machine.proofs.machine.Machine.play.Goals as goal

pub invariant_of-self : goal.invariant_of-self
invariant_of-self c =
    let inside = c.self.inside in
    let most = c.self.invariant.steps in
    let many = c.self.invariant.choices in
    one_step_more inside.program inside.limit inside.choices inside.steps inside.stage c.common_turn.new.self c.self.invariant
    (omega (arith, most, c.if-self.false)) (omega (arith, many, c.if-self-eq-MOST_CHOICES.false)) (λ few. c.in-Some.ensures.ok.sound inside.steps (omega (arith, few)))
    c.in-Some.ensures.known
