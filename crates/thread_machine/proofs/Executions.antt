-- Executions of one choice more.
use Rattle.std.proofs.Common.{◌≡◌, List, [], ◌∷◌, ◌++◌, arith, Option, None}
use Rattle.thread_machine.specs.{declared.choice.Choice.Choice, declared.fault.StepFault.StepFault, World.World}
use Rattle.thread_machine.specs.Step.{refusal_of}
use Rattle.thread_machine.specs.Execution.{execution, execution_by, extended, extended_by}

-- an execution of one choice, by whether it was refused
execution-single : (refusal : Option StepFault) (world : World) (choice : Choice)
    → execution_by refusal world choice (λ after. execution after [])
    ≡ extended_by None refusal (execution world []) choice
execution-single refusal world choice = grind arith

execution-cons : (refusal : Option StepFault) (world : World) (first : Choice) (choices : List Choice) (choice : Choice)
    → ((after : World) → execution after (choices ++ choice ∷ []) ≡ extended (execution after choices) choice)
    → execution_by refusal world first (λ after. execution after (choices ++ choice ∷ []))
    ≡ extended (execution_by refusal world first (λ after. execution after choices)) choice
execution-cons refusal world first choices choice rest = grind arith

-- the execution of one more choice
pub execution-snoc : (choices : List Choice) (world : World) (choice : Choice)
    → execution world (choices ++ choice ∷ []) ≡ extended (execution world choices) choice
execution-snoc [] world choice = execution-single (refusal_of world choice) world choice
execution-snoc (first ∷ choices) world choice =
    execution-cons (refusal_of world first) world first choices choice (λ after. execution-snoc choices after choice)
