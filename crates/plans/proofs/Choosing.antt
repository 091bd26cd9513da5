-- One choice, as it is refused or made.
use Rattle.std.proofs.Common.{◌≡◌, ◌≤◌, Bool, true, length, arith, Some, nat_le}
use Rattle.thread_machine.specs.{declared.choice.Choice.Choice, World.World, Step.refusal_of}
use Rattle.thread_machine.specs.declared.fault.StepFault.TheVariants as fault
use Rattle.plans.specs.{Progress.Progress, Progress.chosen_by, Rules.thread_count}

refused : (none : Bool) (world : World) (choice : Choice) → nat_le (length world.scene.threads) choice.thread ≡ none → none ≡ true
    → refusal_of world choice ≡ Some fault.NoSuchThread
refused none world choice is so = grind arith

-- who isn't there makes no choice
pub none_refused : (progress : Progress) (choice : Choice) → thread_count progress.world ≤ choice.thread
    → chosen_by (refusal_of progress.world choice) choice progress ≡ progress
none_refused progress choice missing = grind arith
