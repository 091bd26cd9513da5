use Rattle.std.proofs.Common.{◌∙◌, sym, ap}
use Rattle.thread_machine.specs.World.{StoredWorld}
use Rattle.debugger.proofs.Goes.{is_step, pass_break, pass_idle, pass_on, pass_fault}
use Rattle.debugger.proofs.session.Debugger.pass.Goals.{else-stands_at_break-via-then-stands_at_break+else-steps-before, else-stands_at_break-via-else-stands_at_break}
use Rattle.debugger.proofs.session.Debugger.pass.Goals as goal

pub returns-then-steps-before : goal.returns-then-steps-before
returns-then-steps-before c =
    let step = is_step c.args.self.now c.step.new.self c.args.choice c.in-Ok.field-0 c.in-Ok.ensures.played
    c.in-Ok.ensures.accepted c.in-Ok.ensures.session in
    let old = c.steps-before.ensures.steps ∙ ap (λ (world : StoredWorld). world.steps) c.machine.ensures in
    let new = c.steps.ensures.steps ∙ ap (λ (world : StoredWorld). world.steps) c.machine-then-stands_at_break.ensures in
    pass_break c.args.self.now c.step.new.self c.args.choice c.in-Ok.ensures.accepted step
    (λ same. c.if-steps-before.true (new ∙ same ∙ sym old)) (sym c.stands_at_break.ensures ∙ c.if-stands_at_break.true)

pub returns-else-stands_at_break : goal.returns-else-stands_at_break
returns-else-stands_at_break c =
    let step = is_step c.args.self.now c.step.new.self c.args.choice c.in-Ok.field-0 c.in-Ok.ensures.played
    c.in-Ok.ensures.accepted c.in-Ok.ensures.session in
    let old = c.steps-before.ensures.steps ∙ ap (λ (world : StoredWorld). world.steps) c.machine.ensures in
    elim c.else-stands_at_break.branch [
      | else-stands_at_break-via-then-stands_at_break+else-steps-before w ↦
          pass_idle c.args.self.now c.step.new.self c.args.choice c.in-Ok.ensures.accepted step
          (sym (w.steps.ensures.steps ∙ ap (λ (world : StoredWorld). world.steps) w.machine-then-stands_at_break.ensures) ∙ w.if-steps-before.false ∙ old)
      | else-stands_at_break-via-else-stands_at_break w ↦
          pass_on c.args.self.now c.step.new.self c.args.choice c.in-Ok.ensures.accepted step
          (sym c.stands_at_break.ensures ∙ w.if-stands_at_break.false)
    ]

pub returns-in-Err : goal.returns-in-Err
returns-in-Err c =
    pass_fault c.in-Err.fault c.args.self.now c.step.new.self c.args.choice c.step.result c.in-Err.is
    c.step.ensures.no_thread c.step.ensures.limit c.step.ensures.memory c.in-Err.ensures.err
