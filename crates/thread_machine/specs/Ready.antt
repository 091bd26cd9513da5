-- Which choices can take a step, and when nothing can happen any more.
use Rattle.std.specs.Prelude.{ℕ, Bool, not, ◌&&◌, ◌||◌, length, is_some, Option, if◌then◌else◌}
use Rattle.std.specs.List.{list_any, list_all, range_with_len}
use Rattle.loader.specs.Program.{Program}
use Rattle.thread_state.specs.Thread.{ThreadState, is_finished}
use Rattle.machine_scene.specs.{Scene.Scene, Scene.Outcome, Outcomes.outcome_of, Outcomes.outcome_of_expiry, Outcomes.is_ready}
use Rattle.thread_machine.specs.{declared.choice.Choice.Choice, World.World}

-- a choice: a thread's turn, or the expiry of its timed wait
abbrev pub outcome_of_choice : Program → Choice → Scene → Option Outcome
outcome_of_choice program choice scene =
    if choice.expiry then outcome_of_expiry choice.thread program scene else outcome_of choice.thread program scene

-- the choice has an outcome
abbrev pub is_choice_ready : Program → Choice → Scene → Bool
is_choice_ready program choice scene = is_some (outcome_of_choice program choice scene)

-- the wait of thread t may run out
abbrev pub can_expire : ℕ → Program → Scene → Bool
can_expire t program scene = is_some (outcome_of_expiry t program scene)

-- every thread has ended or died
abbrev pub all_finished : Scene → Bool
all_finished scene = list_all (λ (thread : ThreadState). is_finished thread.status) scene.threads

-- thread t has a choice that can take a step
abbrev pub can_go_on : Program → Scene → ℕ → Bool
can_go_on program scene t = is_ready t program scene || can_expire t program scene

-- some thread has
abbrev pub some_ready : Program → Scene → Bool
some_ready program scene = list_any (can_go_on program scene) (range_with_len 0 (length scene.threads))

-- the program is over
abbrev pub has_ended : World → Bool
has_ended world = all_finished world.scene

-- the program isn't over, and no choice can take a step
abbrev pub is_stuck : World → Bool
is_stuck world = not (all_finished world.scene) && not (some_ready world.program world.scene)
