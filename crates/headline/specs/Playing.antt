-- What one of the played choices does, and what several of them do.
use Rattle.std.specs.Prelude.{◌≡◌, Bool, true, false, List, ◌++◌, is_some, None}
use Rattle.thread_machine.specs.{declared.choice.Choice.Choice, World.World, Step.played, Step.refusal_of}
use Rattle.debugger.specs.{Session.Session, Moves.AreSteps}

-- it was accepted and leaves this world, or it was refused and the world is as before
abbrev pub Leaves : World → Choice → Bool → World → Type 0
Leaves before choice true after = (refusal_of before choice ≡ None) × (after ≡ (played before choice).world)
Leaves before choice false after = (is_some (refusal_of before choice) ≡ true) × (after ≡ before)

-- the first of these choices were played, and stay
abbrev pub LeavesSteps : Session → List Choice → Session → Type 0
LeavesSteps before choices after =
    (done : List Choice) × ((rest : List Choice) × ((choices ≡ done ++ rest) × AreSteps before done after))
