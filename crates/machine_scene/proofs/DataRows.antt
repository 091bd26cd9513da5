-- Rows on outputs, cells, thread numbers and interrupted statuses.
use Rattle.std.proofs.Common.{◌≡◌, ◌∙◌, ℕ, pos, ◌+◌, ◌<◌, ◌==◌, true, [], ◌∷◌, ◌++◌, length, refl, sym, subst, slice_set, All, length-set}
use Rattle.instruction_table.specs.{declared.row.Row.Row, declared.register.Reg.Reg, Registers.value_in}
use Rattle.instruction_table.specs.declared.row.Row.TheVariants.{Out, Lds, Sts, SelfNumber, Intr, Intrd}
use Rattle.tier_tree.proofs.Trees.{trees_same}
use Rattle.loader.specs.Program.{Program}
use Rattle.thread_state.specs.declared.event.What.TheVariants as what
use Rattle.thread_state.specs.declared.status.Status.TheVariants as status
use Rattle.thread_state.specs.Thread.{ThreadState, Turn, is_finished, interrupted, turn_of_throw, turn_of_out, turn_of_done, turn_of_intrd}
use Rattle.machine_scene.specs.Scene.{Scene, thread_at, cell_at, with_thread, outcome_of_turn}
use Rattle.machine_scene.specs.DataRows.{outcome_of_data_row, outcome_of_interrupt}
use Rattle.machine_scene.specs.Sound.{IsFrame, IsSound, thread_awaits}
use Rattle.machine_scene.proofs.Facts.{IsFree, RunsOn, placed_at}
use Rattle.machine_scene.proofs.Plain.{KeepsSound, StandsAt, GainsNone, either, free_in, gains_same, trees_stay, sound_plain, sound_stay, sound_own}
use Rattle.machine_scene.proofs.Turns.{KeepsStack, throw_keeps, sound_alone, sound_answer, read_same}

sound_out : (program : Program) (steps t : ℕ) (scene : Scene) (from : Reg) → StandsAt program steps t scene status.Runs (Out from)
    → IsSound program (steps + 1) (outcome_of_turn (turn_of_out from (thread_at scene t)) t scene).scene
sound_out program steps t scene from stands =
    let before = thread_at scene t in
    let value = value_in before.registers from in
    let put : Turn = record { thread = record before { output = before.output ++ value ∷ []; pc = before.pc + 1 }; what = what.Out value } in
    sound_alone program steps t scene status.Runs (Out from) (turn_of_out from before) stands RunsOn
    (either (KeepsStack program before) (length before.output == 4096) {a = turn_of_throw (pos 8) before} {b = put}
    (throw_keeps program before (pos 8) stands.within)
    (record { within = stands.next refl; same = refl; free = free_in program steps t scene status.Runs (Out from) stands RunsOn }))

-- an interruption changes the flag alone
flag_alone : {A : Type 0} (read : ThreadState → A) (thread : ThreadState) → read (record thread { interrupted = true }) ≡ read thread
    → read (interrupted thread) ≡ read thread
flag_alone read thread same = either (λ (th : ThreadState). read th ≡ read thread) (is_finished thread.status) refl same

-- another thread, or the thread itself, is interrupted: no step is taken yet
interrupted_sound : (program : Program) (steps other : ℕ) (scene : Scene) → IsSound program steps scene → other < length scene.threads
    → IsSound program steps (with_thread (interrupted (thread_at scene other)) other scene)
interrupted_sound program steps other scene sound there =
    let before = thread_at scene other in
    let thread = interrupted before in
    let placed = placed_at program steps scene other sound there in
    let pc : thread.pc ≡ before.pc = flag_alone (λ (th : ThreadState). th.pc) before refl in
    let stack : thread.stack ≡ before.stack = flag_alone (λ (th : ThreadState). th.stack) before refl in
    sound_plain program steps steps other scene thread scene.phasers scene.cells sound there (trees_same steps scene.phasers sound.trees)
    (record {
      pc = subst (λ (n : ℕ). n < length program.rows) (sym pc) placed.pc;
      stack = subst (All (IsFrame program scene)) (sym stack) placed.stack;
    })
    (subst (GainsNone before.stack) (sym stack) (gains_same before.stack))
    (λ b. flag_alone (thread_awaits program b) before refl)

sound_interrupt : (program : Program) (steps t other : ℕ) (scene : Scene) → StandsAt program steps t scene status.Runs (Intr other)
    → IsSound program (steps + 1) (outcome_of_interrupt other t scene).scene
sound_interrupt program steps t other scene stands =
    let thread = interrupted (thread_at scene other) in
    let after : Scene = with_thread thread other scene in
    let pc : (thread_at after t).pc ≡ (thread_at scene t).pc =
    read_same (λ (th : ThreadState). th.pc) scene other thread t stands.named (flag_alone (λ (th : ThreadState). th.pc) (thread_at scene other) refl) in
    let runs : (thread_at after t).status ≡ status.Runs =
    read_same (λ (th : ThreadState). th.status) scene other thread t stands.named
    (flag_alone (λ (th : ThreadState). th.status) (thread_at scene other) refl) ∙ stands.status in
    let free : IsFree (thread_at after t).status = subst IsFree (sym runs) RunsOn in
    sound_own program steps t after (turn_of_done (thread_at after t)).thread (interrupted_sound program steps other scene stands.sound stands.named)
    (subst (λ (n : ℕ). t < n) (sym (length-set scene.threads other thread)) stands.there)
    (subst (λ (n : ℕ). n + 1 < length program.rows) (sym pc) (stands.next refl)) refl free free

pub sound_data_row : (row : Row) (program : Program) (steps t : ℕ) (scene : Scene) → StandsAt program steps t scene status.Runs row
    → KeepsSound program (steps + 1) (outcome_of_data_row row t scene)
sound_data_row (Out from) program steps t scene stands = sound_out program steps t scene from stands
sound_data_row (Lds into cell) program steps t scene stands = sound_answer program steps t scene (Lds into cell) into (cell_at scene cell) stands refl
sound_data_row (Sts from cell) program steps t scene stands =
    let free = free_in program steps t scene status.Runs (Sts from cell) stands RunsOn in
    sound_stay program steps (steps + 1) t scene (turn_of_done (thread_at scene t)).thread scene.phasers
    (slice_set scene.cells cell (value_in (thread_at scene t).registers from)) stands.sound stands.there
    (trees_stay steps scene.phasers stands.sound.trees) (stands.next refl) refl free free
sound_data_row (SelfNumber into) program steps t scene stands = sound_answer program steps t scene (SelfNumber into) into (pos t) stands refl
sound_data_row (Intr other) program steps t scene stands = sound_interrupt program steps t other scene stands
sound_data_row (Intrd into) program steps t scene stands =
    sound_alone program steps t scene status.Runs (Intrd into) (turn_of_intrd into (thread_at scene t)) stands RunsOn
    (record { within = stands.next refl; same = refl; free = RunsOn })
sound_data_row _ program steps t scene stands = tt
