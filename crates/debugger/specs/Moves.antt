-- Steps and steps back in any order.
use Rattle.std.specs.Prelude.{◌≡◌, ◌≢◌, ℕ, zero, suc, ◌-◌, List, [], ◌∷◌, ◌++◌, length, take, None}
use Rattle.thread_machine.specs.{declared.choice.Choice.Choice, World.world_of, Step.played, Step.refusal_of}
use Rattle.debugger.specs.Session.{Session, went_on, went_back}

-- a choice is played, or the last one is taken back
pub data Move : Type 0 where
  Step : Choice → Move
  Back : Move

-- the choice wasn't refused, and has led from the session before to the one after
pub record IsSessionStep (before : Session) (choice : Choice) (after : Session) : Type 0 where
  pub accepted : refusal_of (world_of before.machine) choice ≡ None
  pub world : world_of after.machine ≡ (played (world_of before.machine) choice).world
  pub session : after ≡ went_on before after.machine

-- these choices have
abbrev pub AreSteps : Session → List Choice → Session → Type 0
AreSteps before [] after = after ≡ before
AreSteps before (choice ∷ choices) after =
    (next : Session) × IsSessionStep before choice next × AreSteps next choices after

-- these moves have, and each step back found a record
abbrev pub AreMoves : Session → List Move → Session → Type 0
AreMoves before [] after = after ≡ before
AreMoves before (Step choice ∷ moves) after = (next : Session) × IsSessionStep before choice next × AreMoves next moves after
AreMoves before (Back ∷ moves) after = (before.past ≢ []) × AreMoves (went_back before) moves after

-- so many steps back
abbrev pub backs : ℕ → Session → Session
backs zero session = session
backs (suc n) session = went_back (backs n session)

-- the choices that are not taken back
abbrev pub choices_left : List Choice → List Move → List Choice
choices_left choices [] = choices
choices_left choices (Step choice ∷ moves) = choices_left (choices ++ choice ∷ []) moves
choices_left choices (Back ∷ moves) = choices_left (take (length choices - 1) choices) moves
