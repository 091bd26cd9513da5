-- Rows at barriers.
use Rattle.std.proofs.Common.{◌≡◌, ◌∙◌, ℕ, pos, ◌+◌, ◌<◌, ◌==◌, ◌&&◌, ◌||◌, Bool, false, length, refl, arith, rules, Option, Some, None}
use Rattle.std.proofs.lemmas.List.{length-map}
use Rattle.instruction_table.specs.declared.row.Row.{Row, TheVariants.Cawait, TheVariants.Creset}
use Rattle.instruction_table.specs.declared.register.Reg.{Reg}
use Rattle.cyclic_barrier.specs.{declared.answer.Entered.Entered, Waits.released}
use Rattle.cyclic_barrier.specs.Barrier.{BarrierState, Entry, has_wait, is_wait, runner_after, enter_beside, enter_timed, reset}
use Rattle.cyclic_barrier.specs.declared.answer.Entered.TheVariants as entered
use Rattle.cyclic_barrier.specs.declared.answer.WaitState.TheVariants as state
use Rattle.cyclic_barrier.proofs.CallLemmas.{has_wait-enter, runner-enter, length-enter, has_wait-reset}
use Rattle.loader.specs.{Named.stops, Program.Program}
use Rattle.thread_state.specs.declared.status.Status.TheVariants as status
use Rattle.thread_state.specs.Thread.{Turn, is_full, turn_of_throw, turn_of_interruption, turn_of_answer, turn_of_done, turn_of_action}
use Rattle.machine_scene.specs.Scene.{Scene, Outcome, thread_at, barrier_at, action_at, with_barrier, outcome_of_turn}
use Rattle.machine_scene.specs.BarrierRows.{is_run_by, unless_busy, unless_runner, outcome_of_entered, outcome_of_entry, outcome_of_await_at, outcome_of_reset, outcome_of_barrier_row}
use Rattle.machine_scene.specs.Sound.{IsSound, is_wait_row}
use Rattle.machine_scene.proofs.{Facts.RunsOn, Facts.action_within, Barriers.sound_run}
use Rattle.machine_scene.proofs.Plain.{KeepsSound, StandsAt, either, free_in}
use Rattle.machine_scene.proofs.Turns.{KeepsStack, throw_keeps, interruption_keeps, answer_keeps, done_keeps, or_no, sound_with_barrier, sound_begin, sound_throw, sound_answer}

-- an entry that runs the action found nobody who runs it
run_idle : (runner : Option ℕ) (thread : ℕ) (interrupted no_wait : Bool) (b : BarrierState)
    → (enter_beside runner thread interrupted no_wait b).answer ≡ entered.Run → runner ≡ None
run_idle runner thread interrupted no_wait b is = grind arith

-- what an entry of thread t leaves at barrier b, by its answer
record Enters (t : ℕ) (old gate : BarrierState) (answer : Entered) : Type 0 where
  who : (u : ℕ) → has_wait u gate ≡ (has_wait u old || (is_wait answer && (t == u)))
  runner : gate.runner ≡ runner_after t answer old.runner
  room : length gate.waits ≡ length old.waits
  idle : answer ≡ entered.Run → old.runner ≡ None

-- a turn beside an entry that began no wait and runs no action
sound_unwaited : (program : Program) (steps t b : ℕ) (scene : Scene) (row : Row) (turn : Turn) (gate : BarrierState)
    → StandsAt program steps t scene status.Runs row → b < length scene.barriers → KeepsStack program (thread_at scene t) turn
    → ((u : ℕ) → has_wait u gate ≡ (has_wait u (barrier_at scene b) || false))
    → gate.runner ≡ (barrier_at scene b).runner → length gate.waits ≡ length (barrier_at scene b).waits
    → IsSound program (steps + 1) (outcome_of_turn turn t (with_barrier gate b scene)).scene
sound_unwaited program steps t b scene row turn gate stands here keeps who runner room =
    sound_with_barrier program steps t b scene status.Runs row turn gate stands RunsOn keeps here
    (λ u. who u ∙ or_no (has_wait u (barrier_at scene b))) room runner

sound_entered : (answer : Entered) (program : Program) (steps t b : ℕ) (scene : Scene) (row : Row) (into : Reg) (gate : BarrierState)
    → StandsAt program steps t scene status.Runs row → stops row ≡ false → ((c : ℕ) → is_wait_row c row ≡ (b == c))
    → b < length scene.barriers → Enters t (barrier_at scene b) gate answer
    → KeepsSound program (steps + 1) (outcome_of_entered answer into b t program (with_barrier gate b scene))
sound_entered (entered.Wait index) program steps t b scene row into gate stands goes at here enters =
    sound_begin program steps t b index scene row gate stands at here enters.who enters.room enters.runner
sound_entered entered.Run program steps t b scene row into gate stands goes at here enters =
    let before = thread_at scene t in
    let first = action_at program b in
    let free = free_in program steps t scene status.Runs row stands RunsOn in
    sound_run program steps t b first scene (turn_of_action b first before).thread gate stands.sound stands.there here
    (λ u. enters.who u ∙ or_no (has_wait u (barrier_at scene b))) enters.room (enters.idle refl) enters.runner
    (stands.next goes) (action_within program scene b stands.sound.code here) refl free free
sound_entered entered.Tripped program steps t b scene row into gate stands goes at here enters =
    let before = thread_at scene t in
    sound_unwaited program steps t b scene row (turn_of_answer into (pos 0) before) gate stands here
    (answer_keeps program before into (pos 0) (stands.next goes)) enters.who enters.runner enters.room
sound_entered entered.Broken program steps t b scene row into gate stands goes at here enters =
    let before = thread_at scene t in
    sound_unwaited program steps t b scene row (turn_of_throw (pos 4) before) gate stands here
    (throw_keeps program before (pos 4) stands.within) enters.who enters.runner enters.room
sound_entered entered.Interrupted program steps t b scene row into gate stands goes at here enters =
    let before = thread_at scene t in
    sound_unwaited program steps t b scene row (turn_of_interruption before) gate stands here
    (interruption_keeps program before stands.within) enters.who enters.runner enters.room
sound_entered entered.TimedOut program steps t b scene row into gate stands goes at here enters =
    let before = thread_at scene t in
    sound_unwaited program steps t b scene row (turn_of_throw (pos 5) before) gate stands here
    (throw_keeps program before (pos 5) stands.within) enters.who enters.runner enters.room
sound_entered entered.Own program steps t b scene row into gate stands goes at here enters =
    let before = thread_at scene t in
    sound_unwaited program steps t b scene row (turn_of_throw (pos 1) before) gate stands here
    (throw_keeps program before (pos 1) stands.within) enters.who enters.runner enters.room
sound_entered entered.Busy program steps t b scene row into gate stands goes at here enters = tt

-- each thread has a place in the waits of each barrier
pub seat : (program : Program) (steps t b : ℕ) (scene : Scene) → IsSound program steps scene → t < length scene.threads
    → b < length scene.barriers → t < length (barrier_at scene b).waits
seat program steps t b scene sound there here = grind arith

sound_await : (program : Program) (steps t b : ℕ) (no_wait : Bool) (scene : Scene) (row : Row) (into : Reg)
    → StandsAt program steps t scene status.Runs row → stops row ≡ false → ((c : ℕ) → is_wait_row c row ≡ (b == c)) → b < length scene.barriers
    → KeepsSound program (steps + 1) (outcome_of_await_at no_wait into b t program scene)
sound_await program steps t b no_wait scene row into stands goes at here =
    let before = thread_at scene t in
    let old = barrier_at scene b in
    let all : Entry = enter_timed t before.interrupted no_wait old in
    either (KeepsSound program (steps + 1)) (old.action && is_full before)
    {a = Some (outcome_of_turn (turn_of_throw (pos 6) before) t scene)} {b = outcome_of_entry no_wait into b t program scene}
    (sound_throw program steps t scene row (pos 6) stands)
    (sound_entered all.answer program steps t b scene row into all.barrier stands goes at here (record {
      who = λ u. has_wait-enter t before.interrupted no_wait old u (seat program steps t b scene stands.sound stands.there here);
      runner = runner-enter t before.interrupted no_wait old;
      room = length-enter t before.interrupted no_wait old;
      idle = run_idle old.runner t before.interrupted no_wait old;
    }))

sound_reset : (program : Program) (steps t b : ℕ) (scene : Scene) → StandsAt program steps t scene status.Runs (Creset b)
    → IsSound program (steps + 1) (outcome_of_reset b t scene).scene
sound_reset program steps t b scene stands =
    let before = thread_at scene t in
    let old = barrier_at scene b in
    sound_with_barrier program steps t b scene status.Runs (Creset b) (turn_of_done before) (reset old) stands RunsOn
    (done_keeps program before (stands.next refl) (free_in program steps t scene status.Runs (Creset b) stands RunsOn)) stands.named
    (has_wait-reset old) (length-map old.waits (released state.Broken)) refl

-- beside another thread's action nothing happens
sound_unless_busy : (program : Program) (steps t b : ℕ) (scene : Scene) (outcome : Option Outcome) → KeepsSound program steps outcome
    → KeepsSound program steps (unless_busy b t scene outcome)
sound_unless_busy program steps t b scene outcome sound = grind arith

-- in the action of its own barrier the thread throws instead
sound_unless_runner : (program : Program) (steps t b : ℕ) (scene : Scene) (row : Row) (outcome : Option Outcome)
    → StandsAt program steps t scene status.Runs row → KeepsSound program (steps + 1) outcome
    → KeepsSound program (steps + 1) (unless_runner b t scene outcome)
sound_unless_runner program steps t b scene row outcome stands sound =
    either (KeepsSound program (steps + 1)) (is_run_by t (barrier_at scene b).runner)
    {a = Some (outcome_of_turn (turn_of_throw (pos 1) (thread_at scene t)) t scene)} {b = outcome}
    (sound_throw program steps t scene row (pos 1) stands) sound

pub sound_barrier_row : (row : Row) (program : Program) (steps t : ℕ) (scene : Scene) → StandsAt program steps t scene status.Runs row
    → KeepsSound program (steps + 1) (outcome_of_barrier_row row t program scene)
sound_barrier_row (Cawait into b) program steps t scene stands =
    sound_unless_busy program (steps + 1) t b scene _ (sound_unless_runner program steps t b scene (Cawait into b) _ stands
    (sound_await program steps t b false scene (Cawait into b) into stands refl (λ c. refl) stands.named))
sound_barrier_row row program steps t scene stands = search (rules, sound_unless_busy, sound_unless_runner, sound_await, sound_reset, sound_answer)
