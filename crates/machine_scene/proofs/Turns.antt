-- Turns that leave a thread's stack as it is, whatever they do beside it.
use Rattle.std.proofs.Common.{◌≡◌, ◌∙◌, ℕ, ℤ, pos, ◌+◌, ◌<◌, ◌==◌, ◌&&◌, ◌||◌, not, Bool, true, false, List, length, ap, refl, sym, subst, arith, is_some, Option, All, get_or-set_same, get_or-set_other}
use Rattle.std.proofs.lemmas.Bool.{cases_eq}
use Rattle.instruction_table.specs.declared.{row.Row.Row, register.Reg.Reg}
use Rattle.tier_tree.specs.Forest.{PhaserState}
use Rattle.tier_tree.proofs.{Trees.KeepsTrees, Stands.same-is}
use Rattle.cyclic_barrier.specs.Barrier.{BarrierState, has_wait}
use Rattle.loader.specs.{Named.stops, Program.Program, Program.row_at}
use Rattle.thread_state.specs.declared.status.Status.{Status}
use Rattle.thread_state.specs.Thread.{ThreadState, Turn, turn_of_throw, turn_of_interruption, turn_of_answer, turn_of_done, turn_of_wait, turn_of_barrier_wait}
use Rattle.thread_state.specs.declared.status.Status.TheVariants as status
use Rattle.machine_scene.specs.Scene.{Scene, thread_at, barrier_at, with_thread, with_phasers, with_barrier, outcome_of_turn}
use Rattle.machine_scene.specs.Sound.{IsFrame, IsSound, bit, awaits, is_wait_row, thread_awaits}
use Rattle.machine_scene.proofs.Facts.{IsFree, RunsOn, ThrowsOn, AwaitsOn, free_awaits, placed_at}
use Rattle.machine_scene.proofs.{Plain.StandsAt, Plain.free_in, Plain.sound_stay, Plain.sound_own, Routines.other-no}
use Rattle.machine_scene.proofs.Barriers.{sound_gate, sound_aside}

-- after the turn the thread stands at a row, with the stack of before, and awaits no barrier
pub record KeepsStack (program : Program) (before : ThreadState) (turn : Turn) : Type 0 where
  pub within : turn.thread.pc < length program.rows
  pub same : turn.thread.stack ≡ before.stack
  pub free : IsFree turn.thread.status

pub throw_keeps : (program : Program) (before : ThreadState) (code : ℤ) → before.pc < length program.rows
    → KeepsStack program before (turn_of_throw code before)
throw_keeps program before code within = record { within = within; same = refl; free = ThrowsOn code }

pub interruption_keeps : (program : Program) (before : ThreadState) → before.pc < length program.rows
    → KeepsStack program before (turn_of_interruption before)
interruption_keeps program before within = record { within = within; same = refl; free = ThrowsOn (pos 3) }

pub answer_keeps : (program : Program) (before : ThreadState) (into : Reg) (value : ℤ) → before.pc + 1 < length program.rows
    → KeepsStack program before (turn_of_answer into value before)
answer_keeps program before into value next = record { within = next; same = refl; free = RunsOn }

pub done_keeps : (program : Program) (before : ThreadState) → before.pc + 1 < length program.rows → IsFree before.status
    → KeepsStack program before (turn_of_done before)
done_keeps program before next free = record { within = next; same = refl; free = free }

pub wait_keeps : (program : Program) (before : ThreadState) (phase : ℤ) → before.pc < length program.rows
    → KeepsStack program before (turn_of_wait phase before)
wait_keeps program before phase within = record { within = within; same = refl; free = AwaitsOn phase }

-- the thread alone
pub sound_alone : (program : Program) (steps t : ℕ) (scene : Scene) (state : Status) (row : Row) (turn : Turn)
    → StandsAt program steps t scene state row → IsFree state → KeepsStack program (thread_at scene t) turn
    → IsSound program (steps + 1) (outcome_of_turn turn t scene).scene
sound_alone program steps t scene state row turn stands free keeps =
    sound_own program steps t scene turn.thread stands.sound stands.there keeps.within keeps.same keeps.free
    (free_in program steps t scene state row stands free)

-- the thread and the trees
pub sound_with_trees : (program : Program) (steps t : ℕ) (scene : Scene) (state : Status) (row : Row) (turn : Turn) (phasers : List PhaserState)
    → StandsAt program steps t scene state row → IsFree state → KeepsStack program (thread_at scene t) turn
    → KeepsTrees (steps + 1) scene.phasers phasers
    → IsSound program (steps + 1) (outcome_of_turn turn t (with_phasers phasers scene)).scene
sound_with_trees program steps t scene state row turn phasers stands free keeps kept =
    sound_stay program steps (steps + 1) t scene turn.thread phasers scene.cells stands.sound stands.there kept keeps.within keeps.same keeps.free
    (free_in program steps t scene state row stands free)

-- the thread and a barrier whose waits and runner stay
pub sound_with_barrier : (program : Program) (steps t b : ℕ) (scene : Scene) (state : Status) (row : Row) (turn : Turn) (gate : BarrierState)
    → StandsAt program steps t scene state row → IsFree state → KeepsStack program (thread_at scene t) turn
    → b < length scene.barriers → ((u : ℕ) → has_wait u gate ≡ has_wait u (barrier_at scene b))
    → length gate.waits ≡ length (barrier_at scene b).waits → gate.runner ≡ (barrier_at scene b).runner
    → IsSound program (steps + 1) (outcome_of_turn turn t (with_barrier gate b scene)).scene
sound_with_barrier program steps t b scene state row turn gate stands free keeps here waits room runner =
    sound_aside program steps t b scene turn.thread gate stands.sound stands.there here waits room runner keeps.within keeps.same keeps.free
    (free_in program steps t scene state row stands free)

pub or_no : (x : Bool) → (x || false) ≡ x
or_no true = refl
or_no false = refl

or_yes : (x : Bool) → (x || true) ≡ true
or_yes true = refl
or_yes false = refl

and_yes : (x : Bool) → (x && not false) ≡ x
and_yes true = refl
and_yes false = refl

and_no : (x : Bool) → (x && not true) ≡ false
and_no true = refl
and_no false = refl

-- its wait at a barrier begins
pub sound_begin : (program : Program) (steps t b index : ℕ) (scene : Scene) (row : Row) (gate : BarrierState)
    → StandsAt program steps t scene status.Runs row → ((c : ℕ) → is_wait_row c row ≡ (b == c)) → b < length scene.barriers
    → ((u : ℕ) → has_wait u gate ≡ (has_wait u (barrier_at scene b) || (t == u)))
    → length gate.waits ≡ length (barrier_at scene b).waits → gate.runner ≡ (barrier_at scene b).runner
    → IsSound program (steps + 1) (outcome_of_turn (turn_of_barrier_wait index (thread_at scene t)) t (with_barrier gate b scene)).scene
sound_begin program steps t b index scene row gate stands at here waits room runner =
    let before = thread_at scene t in
    let thread = (turn_of_barrier_wait index before).thread in
    let old = barrier_at scene b in
    let placed = placed_at program steps scene t stands.sound stands.there in
    let awaited : (c : ℕ) → thread_awaits program c thread ≡ (b == c) = λ c. ap (is_wait_row c) stands.at ∙ at c in
    sound_gate program steps t b scene thread gate stands.sound stands.there here (record { pc = placed.pc; stack = placed.stack }) (record {
      others = λ u apart. waits u ∙ ap (λ (own : Bool). has_wait u old || own) (other-no t u apart) ∙ or_no (has_wait u old);
      own = waits t ∙ ap (λ (own : Bool). has_wait t old || own) (same-is t) ∙ or_yes (has_wait t old) ∙ sym (awaited b ∙ same-is b);
      elsewhere = λ c apart. awaited c ∙ other-no b c apart
          ∙ sym (free_awaits c before.status (row_at program.rows before.pc) (free_in program steps t scene status.Runs row stands RunsOn));
      room = room;
      runs = (let same = ap (λ (r : Option ℕ). bit (is_some r)) runner in omega (arith, same));
      runs_elsewhere = λ c apart. omega arith;
      advances = λ r. omega arith;
    })

-- its wait at a barrier is over
pub sound_end : (program : Program) (steps t b : ℕ) (index : ℤ) (scene : Scene) (row : Row) (turn : Turn) (gate : BarrierState)
    → StandsAt program steps t scene (status.AwaitsBarrier index) row → ((c : ℕ) → is_wait_row c row ≡ (b == c)) → b < length scene.barriers
    → KeepsStack program (thread_at scene t) turn
    → ((u : ℕ) → has_wait u gate ≡ (has_wait u (barrier_at scene b) && not (t == u)))
    → length gate.waits ≡ length (barrier_at scene b).waits → gate.runner ≡ (barrier_at scene b).runner
    → IsSound program (steps + 1) (outcome_of_turn turn t (with_barrier gate b scene)).scene
sound_end program steps t b index scene row turn gate stands at here keeps waits room runner =
    let before = thread_at scene t in
    let old = barrier_at scene b in
    let thread = turn.thread in
    let placed = placed_at program steps scene t stands.sound stands.there in
    let awaited : (c : ℕ) → thread_awaits program c before ≡ (b == c) = λ c.
    ap (λ (s : Status). awaits c s (row_at program.rows before.pc)) stands.status ∙ ap (is_wait_row c) stands.at ∙ at c in
    let free : (c : ℕ) → thread_awaits program c thread ≡ false = λ c. free_awaits c thread.status (row_at program.rows thread.pc) keeps.free in
    sound_gate program steps t b scene thread gate stands.sound stands.there here
    (record { pc = keeps.within; stack = subst (All (IsFrame program scene)) (sym keeps.same) placed.stack }) (record {
      others = λ u apart. waits u ∙ ap (λ (own : Bool). has_wait u old && not own) (other-no t u apart) ∙ and_yes (has_wait u old);
      own = waits t ∙ ap (λ (own : Bool). has_wait t old && not own) (same-is t) ∙ and_no (has_wait t old) ∙ sym (free b);
      elsewhere = λ c apart. free c ∙ sym (awaited c ∙ other-no b c apart);
      room = room;
      runs = (let same = ap (λ (r : Option ℕ). bit (is_some r)) runner in rw keeps.same (omega (arith, same)));
      runs_elsewhere = λ c apart. rw keeps.same (omega arith);
      advances = λ r. rw keeps.same (omega arith);
    })

-- the thread of each number, where one has changed in nothing that is read of it
pub read_same : {A : Type 0} (read : ThreadState → A) (scene : Scene) (other : ℕ) (thread : ThreadState) (t : ℕ) → other < length scene.threads
    → read thread ≡ read (thread_at scene other) → read (thread_at (with_thread thread other scene) t) ≡ read (thread_at scene t)
read_same read scene other thread t there same = grind (arith, cases_eq, get_or-set_same, get_or-set_other)

-- a running thread throws
pub sound_throw : (program : Program) (steps t : ℕ) (scene : Scene) (row : Row) (code : ℤ) → StandsAt program steps t scene status.Runs row
    → IsSound program (steps + 1) (outcome_of_turn (turn_of_throw code (thread_at scene t)) t scene).scene
sound_throw program steps t scene row code stands =
    sound_alone program steps t scene status.Runs row (turn_of_throw code (thread_at scene t)) stands RunsOn
    (throw_keeps program (thread_at scene t) code stands.within)

-- its row answers
pub sound_answer : (program : Program) (steps t : ℕ) (scene : Scene) (row : Row) (into : Reg) (value : ℤ)
    → StandsAt program steps t scene status.Runs row → stops row ≡ false
    → IsSound program (steps + 1) (outcome_of_turn (turn_of_answer into value (thread_at scene t)) t scene).scene
sound_answer program steps t scene row into value stands goes =
    sound_alone program steps t scene status.Runs row (turn_of_answer into value (thread_at scene t)) stands RunsOn
    (answer_keeps program (thread_at scene t) into value (stands.next goes))
