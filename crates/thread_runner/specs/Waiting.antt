-- When the worker of a thread waits, and when it stops.
use Rattle.std.specs.Prelude.{ℕ, Bool, not, ◌&&◌, ◌||◌, length, Option, is_some}
use Rattle.std.specs.List.{list_any, range_with_len}
use Rattle.cyclic_barrier.specs.ThreadSet.{has}
use Rattle.thread_state.specs.Thread.{is_finished}
use Rattle.machine_scene.specs.Scene.{thread_at}
use Rattle.thread_machine.specs.World.{World}
use Rattle.thread_runner.specs.{declared.live.Break.Break, Turns.may_choose, Endings.is_over}

-- thread t has ended or died
abbrev pub has_finished : World → ℕ → Bool
has_finished world t = is_finished (thread_at world.scene t).status

-- its worker stops: the run was broken off or is over, or the thread has finished
abbrev pub leaves : Option Break → World → ℕ → Bool
leaves broken world t = is_some broken || (is_over world || has_finished world t)

-- its worker waits: it doesn't stop, and its thread has no choice to make
abbrev pub waits : Option Break → World → ℕ → Bool
waits broken world t = not (leaves broken world t) && not (may_choose world t)

-- it was last found to wait, and needn't any longer
abbrev pub wakes : Option Break → World → (sleepers : ℕ) → ℕ → Bool
wakes broken world sleepers t = has sleepers t && not (waits broken world t)

-- that is so of some worker
abbrev pub some_wakes : Option Break → World → (sleepers : ℕ) → Bool
some_wakes broken world sleepers = list_any (wakes broken world sleepers) (range_with_len 0 (length world.scene.threads))
