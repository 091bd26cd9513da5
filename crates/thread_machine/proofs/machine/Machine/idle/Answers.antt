use Rattle.std.proofs.Common.{◌∙◌, ap, sym, subst, arith, ◌≤◌, ◌+◌, replicate, None}
use Rattle.thread_machine.specs.{World.StoredWorld, World.world_of, Execution.Execution, Idle.idle_event}
use Rattle.thread_machine.proofs.Idling.{after_idling, idle_execution}
use Rattle.thread_machine.proofs.machine.Machine.idle.Goals as goal

pub returns-clause-played : goal.returns-clause-played
returns-clause-played c =
    let n = c.min-times.result in
    let within : c.self.inside.choices + n ≤ 1000000000000 =
    omega (arith, c.min-times.ensures, c.self.invariant.choices) in
    idle_execution n (world_of c.args.self.now) c.args.choice c.requires
    (sym c.is_choice_ready.ensures ∙ c.if-is_choice_ready.false)
    (subst (λ (w : StoredWorld). w.choices + n ≤ 1000000000000) c.self.view_is within)
    ∙ ap (λ (w : StoredWorld). let done : Execution =
    record { world = after_idling n (world_of w); events = replicate n idle_event; refusal = None } in done) (sym c.self.view_is)
