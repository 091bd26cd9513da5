-- Rows that use a barrier.
use Rattle.std.specs.Prelude.{ℕ, pos, ◌==◌, ◌&&◌, not, nat_lt, int_lt, Bool, false, if◌then◌else◌, Option, Some, None}
use Rattle.instruction_table.specs.{declared.row.Row.Row, declared.register.Reg.Reg, Registers.value_in}
use Rattle.instruction_table.specs.declared.row.Row.TheVariants.{Cawait, Cawaitt, Creset, Cbroken, Cwaiting, Cparties}
use Rattle.cyclic_barrier.specs.declared.answer.Entered.{Entered}
use Rattle.cyclic_barrier.specs.Barrier.{Entry, enter_timed, reset, number_waiting}
use Rattle.cyclic_barrier.specs.declared.answer.Entered.TheVariants as entered
use Rattle.loader.specs.Program.{Program}
use Rattle.thread_state.specs.declared.event.Mark.TheVariants as mark
use Rattle.thread_state.specs.Thread.{turn_of_throw, turn_of_interruption, turn_of_answer, turn_of_done, turn_of_barrier_wait, turn_of_action, is_full}
use Rattle.machine_scene.specs.Scene.{Scene, Outcome, thread_at, barrier_at, action_at, with_barrier, outcome_of_turn, outcome_marked, alone}

-- this thread runs the action
abbrev pub is_run_by : ℕ → Option ℕ → Bool
is_run_by t (Some runner) = runner == t
is_run_by t None = false

-- another thread does
abbrev pub is_run_by_another : ℕ → Option ℕ → Bool
is_run_by_another t (Some runner) = not (runner == t)
is_run_by_another t None = false

-- a row at a barrier isn't ready while another thread runs the barrier's action
abbrev pub unless_busy : ℕ → ℕ → Scene → Option Outcome → Option Outcome
unless_busy b t scene outcome = if is_run_by_another t (barrier_at scene b).runner then None else outcome

-- a row at a barrier whose action the thread itself runs is exception 1
abbrev pub unless_runner : ℕ → ℕ → Scene → Option Outcome → Option Outcome
unless_runner b t scene outcome =
    if is_run_by t (barrier_at scene b).runner then Some (outcome_of_turn (turn_of_throw (pos 1) (thread_at scene t)) t scene)
    else outcome

-- the outcome of an entry, by its result; during another thread's action it isn't ready
abbrev pub outcome_of_entered : Entered → Reg → ℕ → ℕ → Program → Scene → Option Outcome
outcome_of_entered (entered.Wait index) into b t program scene = Some (alone (turn_of_barrier_wait index) t scene)
outcome_of_entered entered.Run into b t program scene = Some (alone (turn_of_action b (action_at program b)) t scene)
outcome_of_entered entered.Tripped into b t program scene =
    Some (outcome_marked (mark.Tripped b) (turn_of_answer into (pos 0) (thread_at scene t)) t scene)
outcome_of_entered entered.Broken into b t program scene = Some (alone (turn_of_throw (pos 4)) t scene)
outcome_of_entered entered.Interrupted into b t program scene =
    Some (outcome_marked (mark.Broke b) (turn_of_interruption (thread_at scene t)) t scene)
outcome_of_entered entered.TimedOut into b t program scene =
    Some (outcome_marked (mark.Broke b) (turn_of_throw (pos 5) (thread_at scene t)) t scene)
outcome_of_entered entered.Own into b t program scene = Some (alone (turn_of_throw (pos 1)) t scene)
outcome_of_entered entered.Busy into b t program scene = None

-- thread t comes to barrier b
abbrev pub outcome_of_entry : Bool → Reg → ℕ → ℕ → Program → Scene → Option Outcome
outcome_of_entry no_wait into b t program scene =
    let all : Entry = enter_timed t (thread_at scene t).interrupted no_wait (barrier_at scene b) in
    outcome_of_entered all.answer into b t program (with_barrier all.barrier b scene)

-- a barrier with an action needs room for one more stack entry, whatever the result of the entry would be
abbrev pub outcome_of_await_at : Bool → Reg → ℕ → ℕ → Program → Scene → Option Outcome
outcome_of_await_at no_wait into b t program scene =
    if (barrier_at scene b).action && is_full (thread_at scene t)
    then Some (outcome_of_turn (turn_of_throw (pos 6) (thread_at scene t)) t scene)
    else outcome_of_entry no_wait into b t program scene

-- thread t resets barrier b, which breaks the generation of the waiting threads
abbrev pub outcome_of_reset : ℕ → ℕ → Scene → Outcome
outcome_of_reset b t scene =
    outcome_marked (if nat_lt 0 (number_waiting (barrier_at scene b)) then mark.Broke b else mark.Nothing)
    (turn_of_done (thread_at scene t)) t (with_barrier (reset (barrier_at scene b)) b scene)

-- what such a row does; a row of another group has no outcome here
abbrev pub outcome_of_barrier_row : Row → ℕ → Program → Scene → Option Outcome
outcome_of_barrier_row (Cawait into b) t program scene =
    unless_busy b t scene (unless_runner b t scene (outcome_of_await_at false into b t program scene))
outcome_of_barrier_row (Cawaitt into b time) t program scene =
    unless_busy b t scene (unless_runner b t scene
    (outcome_of_await_at (not (int_lt (pos 0) (value_in (thread_at scene t).registers time))) into b t program scene))
outcome_of_barrier_row (Creset b) t program scene =
    unless_busy b t scene (unless_runner b t scene (Some (outcome_of_reset b t scene)))
outcome_of_barrier_row (Cbroken into b) t program scene =
    unless_busy b t scene
    (Some (outcome_of_turn (turn_of_answer into (if (barrier_at scene b).broken then pos 1 else pos 0) (thread_at scene t)) t scene))
outcome_of_barrier_row (Cwaiting into b) t program scene =
    unless_busy b t scene (unless_runner b t scene
    (Some (outcome_of_turn (turn_of_answer into (pos (number_waiting (barrier_at scene b))) (thread_at scene t)) t scene)))
outcome_of_barrier_row (Cparties into b) t program scene =
    Some (alone (turn_of_answer into (pos (barrier_at scene b).parties)) t scene)
outcome_of_barrier_row _ t program scene = None
