use Rattle.std.proofs.Common.{◌∙◌, ◌-◌, ap, arith, subst}
use Rattle.thread_machine.specs.World.{StoredWorld}
use Rattle.debugger.specs.Goes.{Goes}
use Rattle.debugger.proofs.Goes.{stops_end, stops_break, stops_fault}
use Rattle.debugger.proofs.session.Debugger.stop_of.Goals as goal

pub overflow_sub-played : goal.overflow_sub-played
overflow_sub-played c =
    let now = c.choices.ensures.choices ∙ ap (λ (world : StoredWorld). world.choices) c.machine.ensures in
    omega (arith, now, c.requires)

pub returns-in-On : goal.returns-in-On
returns-in-On c = λ session choices before goes.
    let now = c.choices.ensures.choices ∙ ap (λ (world : StoredWorld). world.choices) c.machine.ensures in
    stops_end session c.args.self.now choices _
    (ap (λ n. n - c.args.before) now ∙ ap (λ n. c.args.self.now.machine.choices - n) before)
    (subst (λ w. Goes session choices w c.args.self.now) c.in-On.is goes)

pub returns-in-Break : goal.returns-in-Break
returns-in-Break c = λ session choices before goes.
    let now = c.choices.ensures.choices ∙ ap (λ (world : StoredWorld). world.choices) c.machine.ensures in
    stops_break session c.args.self.now choices _
    (ap (λ n. n - c.args.before) now ∙ ap (λ n. c.args.self.now.machine.choices - n) before)
    (subst (λ w. Goes session choices w c.args.self.now) c.in-Break.is goes)

pub returns-in-Fault : goal.returns-in-Fault
returns-in-Fault c = λ session choices before goes.
    let now = c.choices.ensures.choices ∙ ap (λ (world : StoredWorld). world.choices) c.machine.ensures in
    stops_fault c.in-Fault.fault session c.args.self.now choices _
    (ap (λ n. n - c.args.before) now ∙ ap (λ n. c.args.self.now.machine.choices - n) before)
    (subst (λ w. Goes session choices w c.args.self.now) c.in-Fault.is goes)
