-- A higher limit makes no difference to choices that were accepted.
use Rattle.std.proofs.Common.{◌≡◌, ◌≤◌, ℕ, List, [], ◌∷◌, refl, arith, Option, None}
use Rattle.std.proofs.lemmas.Bool.Decides.{nat_tests}
use Rattle.machine_scene.specs.Scene.{Outcome}
use Rattle.thread_machine.specs.{declared.choice.Choice.Choice, declared.fault.StepFault.StepFault, World.World}
use Rattle.thread_machine.specs.{Ready.outcome_of_choice, Step.played, Step.played_by, Step.refusal_of}
use Rattle.thread_machine.specs.{Execution.execution, Execution.execution_by, Limit.with_limit, Limit.under_limit}

-- a choice played in a world with another limit
accepted_too : (limit : ℕ) (world : World) (choice : Choice) → world.limit ≤ limit → refusal_of world choice ≡ None
    → refusal_of (with_limit limit world) choice ≡ None
accepted_too limit world choice higher accepted = grind (arith, higher, accepted, nat_tests)

-- what the rest makes of both worlds is the same, so what the choice and the rest make of them is
steps_under : (limit : ℕ) (now later : Option StepFault) (world : World) (choice : Choice) (choices : List Choice)
    → (now ≡ None → later ≡ None)
    → (execution_by now world choice (λ after. execution after choices)).refusal ≡ None
    → ((execution (played world choice).world choices).refusal ≡ None
    → execution (with_limit limit (played world choice).world) choices
    ≡ under_limit limit (execution (played world choice).world choices))
    → execution_by later (with_limit limit world) choice (λ after. execution after choices)
    ≡ under_limit limit (execution_by now world choice (λ after. execution after choices))
steps_under limit now later world choice choices kept accepted rest = grind arith

limit_kept : (limit : ℕ) (outcome : Option Outcome) (world : World) → world.limit ≤ limit
    → (played_by outcome world).world.limit ≤ limit
limit_kept limit outcome world higher = grind arith

pub execution_under : (limit : ℕ) (choices : List Choice) (world : World) → world.limit ≤ limit
    → (execution world choices).refusal ≡ None
    → execution (with_limit limit world) choices ≡ under_limit limit (execution world choices)
execution_under limit [] world higher accepted = refl
execution_under limit (choice ∷ choices) world higher accepted =
    steps_under limit (refusal_of world choice) (refusal_of (with_limit limit world) choice) world choice choices
    (accepted_too limit world choice higher) accepted
    (execution_under limit choices (played world choice).world (limit_kept limit (outcome_of_choice world.program choice world.scene) world higher))
