-- Idle choices in a row.
use Rattle.std.proofs.Common.{◌≡◌, ◌∙◌, ◌+◌, ◌<◌, ◌≤◌, ℕ, zero, suc, false, ◌∷◌, length, replicate, ap, arith, None}
use Rattle.std.proofs.lemmas.Bool.Decides.{nat_tests}
use Rattle.thread_machine.specs.{declared.choice.Choice.Choice, World.World, Ready.is_choice_ready, Idle.idle_event}
use Rattle.thread_machine.specs.Step.{Played, idled, refusal_of}
use Rattle.thread_machine.specs.Execution.{Execution, execution, execution_by}
use Rattle.thread_machine.proofs.Readiness.{idle_choice}

-- an idle choice is accepted as long as choices are left
pub idle_accepted : (world : World) (choice : Choice) → choice.thread < length world.scene.threads
    → is_choice_ready world.program choice world.scene ≡ false → world.choices < 1000000000000
    → refusal_of world choice ≡ None
idle_accepted world choice there idle left = grind (arith, there, idle, left, nat_tests)

-- a world with so many choices more
abbrev pub after_idling : ℕ → World → World
after_idling n world = record world { choices = world.choices + n }

-- so many idle choices are accepted one after another, and only the choices are counted: readiness doesn't look at the count
pub idle_execution : (n : ℕ) (world : World) (choice : Choice) → choice.thread < length world.scene.threads
    → is_choice_ready world.program choice world.scene ≡ false → world.choices + n ≤ 1000000000000
    → execution world (replicate n choice)
    ≡ record { world = after_idling n world; events = replicate n idle_event; refusal = None }
idle_execution zero world choice there idle few = grind arith
idle_execution (suc n) world choice there idle few =
    let accepted = idle_accepted world choice there idle (omega (arith, few)) in
    let next = (idled world).world in
    let counted : world.choices + 1 + n ≡ world.choices + suc n = omega arith in
    let rest = idle_execution n next choice there idle (omega (arith, few)) in
    ap (λ refusal. execution_by refusal world choice (λ after. execution after (replicate n choice))) accepted
    ∙ ap (λ (play : Played). let later : Execution = execution play.world (replicate n choice) in
    let done : Execution = record { world = later.world; events = play.event ∷ later.events; refusal = later.refusal } in done)
    (idle_choice world choice idle)
    ∙ ap (λ (later : Execution).
    let done : Execution = record { world = later.world; events = idle_event ∷ later.events; refusal = later.refusal } in done) rest
    ∙ ap (λ k. let done : Execution =
    record { world = record world { choices = k }; events = replicate (suc n) idle_event; refusal = None } in done) counted
