-- A debugged machine: its world, the worlds to which it can go back, and its breakpoints.
use Rattle.std.specs.Prelude.{◌≡◌, ℕ, Bool, List, [], ◌∷◌, ◌++◌, map, take, Option, None}
use Rattle.machine_scene.specs.Undo.{Note}
use Rattle.thread_machine.specs.{World.World, World.StoredWorld, World.world_of, declared.choice.Choice.Choice, Step.played}
use Rattle.thread_machine.specs.{Execution.execution, Undo.undone, Undo.CanUndo}

-- the present world; the worlds before the last choices, word for word and the newest first; how many of them are kept at most;
-- and for each row whether there is a breakpoint
pub record Session : Type 0 where
  pub machine : StoredWorld
  pub past : List StoredWorld
  pub kept : ℕ
  pub breaks : List Bool

-- a choice has led to this world: the world before it is the newest of the past, and the oldest is dropped if there are more
-- than are kept
abbrev pub went_on : Session → StoredWorld → Session
went_on session world = record session { machine = world; past = take session.kept (session.machine ∷ session.past) }

-- back to the newest of the worlds before this one
abbrev pub back_to : List StoredWorld → Session → Session
back_to [] session = session
back_to (world ∷ past) session = record session { machine = world; past = past }

-- the last choice is taken back, if what undoes it is kept
abbrev pub went_back : Session → Session
went_back session = back_to session.past session

-- the world after these choices
abbrev pub world_after : World → List Choice → World
world_after world [] = world
world_after world (choice ∷ choices) = world_after (played world choice).world choices

-- the worlds before each of these choices, the newest first
abbrev pub worlds_before : World → List Choice → List World
worlds_before world [] = []
worlds_before world (choice ∷ choices) = worlds_before (played world choice).world choices ++ world ∷ []

-- none of these choices is refused where they are played from the first world on, they lead to the session's, and its past are
-- the newest of the worlds between: the older ones are no longer kept
pub record IsHistory (first : World) (choices : List Choice) (session : Session) : Type 0 where
  pub accepted : (execution first choices).refusal ≡ None
  pub machine : world_of session.machine ≡ (execution first choices).world
  pub older : List World
  pub past : map world_of session.past ++ older ≡ worlds_before first choices

-- the worlds that what is kept restores one after another, the newest first
abbrev pub past_of : StoredWorld → List (Option Note) → List StoredWorld
past_of world [] = []
past_of world (note ∷ notes) = undone note world ∷ past_of (undone note world) notes

-- each record is one of the choice that led to its world
abbrev pub IsTrail : StoredWorld → List (Option Note) → Type 0
IsTrail world [] = Unit {0}
IsTrail world (note ∷ notes) = CanUndo note world × IsTrail (undone note world) notes
