-- Which choice a thread may make by itself: its turn if it is ready, or the expiry of its wait if this wait is due. A wait is
-- due if no thread is ready, and no thread with a lower number has a wait that can expire.
use Rattle.std.specs.Prelude.{◌≡◌, ◌<◌, ℕ, Bool, true, false, not, ◌&&◌, ◌||◌, List, [], ◌∷◌, length}
use Rattle.std.specs.List.{list_any, range_with_len}
use Rattle.machine_scene.specs.Outcomes.{is_ready}
use Rattle.thread_machine.specs.{declared.choice.Choice.Choice, World.World, Ready.can_expire, Step.played}

-- the turn of thread t, and the expiry of its wait
abbrev pub turn_of : ℕ → Choice
turn_of t = record { thread = t; expiry = false }

abbrev pub expiry_of : ℕ → Choice
expiry_of t = record { thread = t; expiry = true }

-- the turn of thread t would be a step
abbrev pub is_ready_in : World → ℕ → Bool
is_ready_in world t = is_ready t world.program world.scene

-- the wait of thread t may run out
abbrev pub can_expire_in : World → ℕ → Bool
can_expire_in world t = can_expire t world.program world.scene

-- some thread is ready
abbrev pub some_turn : World → Bool
some_turn world = list_any (is_ready_in world) (range_with_len 0 (length world.scene.threads))

-- the wait of some thread below t may run out
abbrev pub some_lower : World → ℕ → Bool
some_lower world t = list_any (can_expire_in world) (range_with_len 0 t)

-- the wait of thread t runs out next
abbrev pub is_due : World → ℕ → Bool
is_due world t = can_expire_in world t && (not (some_turn world) && not (some_lower world t))

-- thread t has a choice to make
abbrev pub may_choose : World → ℕ → Bool
may_choose world t = is_ready_in world t || is_due world t

-- it is the lowest that has one
abbrev pub IsNext : World → ℕ → Type 0
IsNext world t = (may_choose world t ≡ true) × ((k : ℕ) → k < t → may_choose world k ≡ false)

-- the choice that it has to make
abbrev pub choice_in : World → ℕ → Choice
choice_in world t = record { thread = t; expiry = not (is_ready_in world t) }

-- the choice is one that its thread has to make: no time passes while a thread is ready
abbrev pub IsDue : World → Choice → Type 0
IsDue world choice = (may_choose world choice.thread ≡ true) × (choice ≡ choice_in world choice.thread)

-- each of these is, in the world that those before it lead to
abbrev pub AreDue : World → List Choice → Type 0
AreDue world [] = Unit {0}
AreDue world (choice ∷ choices) = IsDue world choice × AreDue (played world choice).world choices
