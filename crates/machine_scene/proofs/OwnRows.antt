-- Rows of a thread alone, and rows that read a phaser.
use Rattle.std.proofs.Common.{ℕ, pos, ◌+◌, ◌<◌, Bool, true, false, length, refl, if◌then◌else◌, rules}
use Rattle.std.specs.List.{list_any}
use Rattle.instruction_table.specs.declared.row.Row.{Row}
use Rattle.instruction_table.specs.declared.row.Row.TheVariants.{Halt, Ldi, Mov, Add, Sub, Jmp, Beq, Bne, Blt, Pphase}
use Rattle.loader.specs.Program.{Program}
use Rattle.thread_state.specs.declared.event.What.TheVariants as what
use Rattle.thread_state.specs.declared.status.Status.TheVariants as status
use Rattle.thread_state.specs.{Frame.is_routine, Thread.Turn, Thread.turn_of_throw, Thread.turn_of_halt, Thread.turn_of_local}
use Rattle.machine_scene.specs.{Scene.Scene, Scene.thread_at, Scene.outcome_of_turn, OwnRows.outcome_of_own_row, Sound.IsSound}
use Rattle.machine_scene.specs.GetterRows.{outcome_of_getter_row}
use Rattle.machine_scene.proofs.{Facts.RunsOn, Facts.EndsOn, Plain.KeepsSound, Plain.StandsAt, Plain.either, Plain.free_in}
use Rattle.machine_scene.proofs.Turns.{KeepsStack, throw_keeps, sound_alone, sound_answer}

-- a row on registers alone
sound_local : (program : Program) (steps t : ℕ) (scene : Scene) (row : Row) → StandsAt program steps t scene status.Runs row
    → (turn_of_local row (thread_at scene t)).thread.pc < length program.rows
    → IsSound program (steps + 1) (outcome_of_turn (turn_of_local row (thread_at scene t)) t scene).scene
sound_local program steps t scene row stands within =
    sound_alone program steps t scene status.Runs row (turn_of_local row (thread_at scene t)) stands RunsOn
    (record { within = within; same = refl; free = free_in program steps t scene status.Runs row stands RunsOn })

-- a jump that is taken or not
branch_within : (rows : ℕ) (taken : Bool) (target pc : ℕ) → target < rows → pc + 1 < rows → (if taken then target else pc + 1) < rows
branch_within rows true target pc within next = within
branch_within rows false target pc within next = next

pub sound_own_row : (row : Row) (program : Program) (steps t : ℕ) (scene : Scene) → StandsAt program steps t scene status.Runs row
    → KeepsSound program (steps + 1) (outcome_of_own_row row t scene)
sound_own_row Halt program steps t scene stands =
    let before = thread_at scene t in
    let ended : Turn = record { thread = record before { status = status.Ended }; what = what.Ends } in
    sound_alone program steps t scene status.Runs Halt (turn_of_halt before) stands RunsOn
    (either (KeepsStack program before) (list_any is_routine before.stack) {a = turn_of_throw (pos 7) before} {b = ended}
    (throw_keeps program before (pos 7) stands.within) (record { within = stands.within; same = refl; free = EndsOn }))
sound_own_row (Ldi into value) program steps t scene stands = sound_local program steps t scene (Ldi into value) stands (stands.next refl)
sound_own_row (Mov into from) program steps t scene stands = sound_local program steps t scene (Mov into from) stands (stands.next refl)
sound_own_row (Add into left right) program steps t scene stands =
    sound_local program steps t scene (Add into left right) stands (stands.next refl)
sound_own_row (Sub into left right) program steps t scene stands =
    sound_local program steps t scene (Sub into left right) stands (stands.next refl)
sound_own_row (Jmp target) program steps t scene stands = sound_local program steps t scene (Jmp target) stands stands.named
sound_own_row (Beq left right target) program steps t scene stands =
    sound_local program steps t scene (Beq left right target) stands
    (branch_within (length program.rows) _ target (thread_at scene t).pc stands.named (stands.next refl))
sound_own_row (Bne left right target) program steps t scene stands =
    sound_local program steps t scene (Bne left right target) stands
    (branch_within (length program.rows) _ target (thread_at scene t).pc stands.named (stands.next refl))
sound_own_row (Blt left right target) program steps t scene stands =
    sound_local program steps t scene (Blt left right target) stands
    (branch_within (length program.rows) _ target (thread_at scene t).pc stands.named (stands.next refl))
sound_own_row _ program steps t scene stands = tt

pub sound_getter_row : (row : Row) (program : Program) (steps t : ℕ) (scene : Scene) → StandsAt program steps t scene status.Runs row
    → KeepsSound program (steps + 1) (outcome_of_getter_row row t scene)
sound_getter_row (Pphase into p) program steps t scene stands = sound_answer program steps t scene (Pphase into p) into _ stands refl
sound_getter_row row program steps t scene stands = search (rules, sound_answer)
