-- Which choice is next if a plan doesn't name it. None of these choices is idle.
use Rattle.std.specs.Prelude.{ℕ, ◌-◌, ◌%◌, nat_lt, ◌&&◌, if◌then◌else◌, Bool, true, false, List, length, slice_get, Option, Some, None}
use Rattle.std.specs.List.{filter_map, find, range_with_len}
use Rattle.rand_pcg.specs.{Lcg.advance, Lcg.increment_of, Lcg.started, Pcg.multiplier_64, Pcg.pcg32}
use Rattle.machine_scene.specs.Outcomes.{is_ready}
use Rattle.thread_machine.specs.{declared.choice.Choice.Choice, World.World, Ready.can_expire}
use Rattle.plans.specs.{declared.word.Rule.Rule, Progress.Progress}
use Rattle.plans.specs.declared.word.Rule.TheVariants as rule

-- the turn of thread t, and the expiry of its wait
abbrev pub turn_of : ℕ → Choice
turn_of t = record { thread = t; expiry = false }

abbrev pub expiry_of : ℕ → Choice
expiry_of t = record { thread = t; expiry = true }

abbrev pub thread_count : World → ℕ
thread_count world = length world.scene.threads

-- the turn of thread t would be a step; its wait may time out
unfoldable pub is_ready_in : World → ℕ → Bool
is_ready_in world t = is_ready t world.program world.scene

unfoldable pub can_expire_in : World → ℕ → Bool
can_expire_in world t = can_expire t world.program world.scene

-- the numbers of the threads from this one on
abbrev pub threads_from : ℕ → World → List ℕ
threads_from low world = range_with_len low (thread_count world - low)

-- one thread's turns
abbrev pub alone : ℕ → World → Option Choice
alone t world = if nat_lt t (thread_count world) && is_ready_in world t then Some (turn_of t) else None

-- in turn: the next that is ready after the one chosen last, or else from the first; time passes only if nobody is ready, for
-- the lowest whose wait may time out
abbrev pub expiry_by : Option ℕ → Option Choice
expiry_by (Some t) = Some (expiry_of t)
expiry_by None = None

abbrev pub turn_by : Option ℕ → Option Choice → Option Choice
turn_by (Some t) otherwise = Some (turn_of t)
turn_by None otherwise = otherwise

unfoldable pub turn_about : ℕ → World → Option Choice
turn_about next world =
    turn_by (find (is_ready_in world) (threads_from next world))
    (turn_by (find (is_ready_in world) (threads_from 0 world))
    (expiry_by (find (can_expire_in world) (threads_from 0 world))))

-- word k of a seed, from 0
unfoldable pub word_at : ℕ → ℕ → ℕ
word_at seed k =
    (pcg32 (advance 64 multiplier_64 k (started 64 multiplier_64 seed (increment_of 64 0)))).0

-- the choice by which thread t can continue: its turn if it is ready, or its expiry
abbrev pub choice_in : World → ℕ → Option Choice
choice_in world t =
    if is_ready_in world t then Some (turn_of t) else (if can_expire_in world t then Some (expiry_of t) else None)

-- those of all threads that can continue, in order of number
unfoldable pub able : World → List Choice
able world = filter_map (choice_in world) (threads_from 0 world)

-- the one of them that a word picks
abbrev pub picked : ℕ → List Choice → Option Choice
picked word choices = slice_get choices (word % length choices)

-- choice k by a rule
unfoldable pub next_choice : Rule → ℕ → Progress → Option Choice
next_choice (rule.Alone t) k progress = alone t progress.world
next_choice rule.TurnAbout k progress = turn_about progress.after_last progress.world
next_choice (rule.BySeed seed) k progress = picked (word_at seed k) (able progress.world)
