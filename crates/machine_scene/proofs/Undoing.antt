-- A turn, or an expiry: a sound scene stays sound, and it is undone to the word.
use Rattle.std.proofs.Common.{◌≡◌, ◌∙◌, ℕ, ◌<◌, length, ap, refl, sym, subst, arith, Option, Some, None, length-set}
use Rattle.instruction_table.specs.declared.row.Row.{Row}
use Rattle.tier_tree.specs.Stored.{IsStored}
use Rattle.tier_tree.proofs.Changed.{restored_line}
use Rattle.loader.specs.Program.{Program, IsNamed, row_at}
use Rattle.thread_state.specs.{declared.event.Event.Event, Thread.top_of}
use Rattle.thread_state.specs.Undo as own
use Rattle.machine_scene.specs.{declared.ready_set.ReadySet.ReadySet, declared.reach.Reach.Reach, Sound.IsSound}
use Rattle.machine_scene.specs.Scene.{StoredScene, Outcome, scene_of, counts_in, thread_at}
use Rattle.machine_scene.specs.Outcomes.{outcome_in, outcome_of, is_ready, outcome_of_expiry}
use Rattle.machine_scene.specs.Undo.{Note, IsThere, PhasersWithin, CanUndo, reach_in, reach_of, touched_by, undone}
use Rattle.machine_scene.specs.Played.{IsPlayed}
use Rattle.machine_scene.proofs.{Outcomes.sound_outcome, Outcomes.sound_timeout, Plain.either, Reaches.reach_there}
use Rattle.machine_scene.proofs.{Placed.turn_placed, Placed.top_placed, Undone.GivesBack, Undone.BackIf}
use Rattle.machine_scene.proofs.UndoneRows.{NamesThread, back_in, back_timeout}

-- the note gives the scene back, and may be used
record IsUndone (note : Note) (old new : StoredScene) : Type 0 where
  pub undo : undone note new ≡ old
  pub can : CanUndo note new
  pub threads : length new.threads ≡ length old.threads

-- a note of this reach
abbrev noted : Reach → ℕ → StoredScene → Note
noted reach t stored = record { thread = t; before = own.note_of (thread_at (scene_of stored) t); touched = touched_by reach stored; ready = stored.ready }

-- the scene that such a note gives back, but for whose turn was ready
undone_within : (reach : Reach) (t : ℕ) (old new : StoredScene) → IsThere reach old → t < length old.threads → IsStored old.phasers
    → GivesBack reach t (scene_of old) (scene_of new) → PhasersWithin reach old.phasers new.phasers
    → IsUndone (noted reach t old) old new
undone_within reach t old new there thread stored gives within = grind (arith, restored_line, length-set)

names_thread : (row : Row) (program : Program) (stored : StoredScene) → IsNamed (counts_in stored) row → NamesThread row (scene_of stored)
names_thread row program stored named = grind arith

reached : (program : Program) (t : ℕ) (old : StoredScene) → IsSound program 2147483646 (scene_of old) → t < length old.threads
    → IsThere (reach_of t program (scene_of old)) old
reached program t old sound there =
    let thread = thread_at (scene_of old) t in
    reach_there thread.status (row_at program.rows thread.pc) (top_of thread.stack) program old
    (turn_placed program (row_at program.rows thread.pc) t old sound there refl).sees.named
    (top_placed program (top_of thread.stack) t old sound there refl)

-- a turn, of a thread that stands at this row
pub turn_played : (row : Row) (program : Program) (t : ℕ) (old new : StoredScene) (event : Event)
    → row ≡ row_at program.rows (thread_at (scene_of old) t).pc → IsSound program 2147483646 (scene_of old)
    → t < length old.threads → IsStored old.phasers
    → outcome_in (thread_at (scene_of old) t).status row t program (scene_of old) ≡ Some (record { scene = scene_of new; event = event })
    → PhasersWithin (reach_in (thread_at (scene_of old) t).status row (top_of (thread_at (scene_of old) t).stack)) old.phasers new.phasers
    → IsPlayed (outcome_of t program (scene_of old)) t program old new event
turn_played row program t old new event at sound there stored is within =
    let scene = scene_of old in
    let thread = thread_at scene t in
    let own_row = row_at program.rows thread.pc in
    let reach = reach_of t program scene in
    let named = names_thread own_row program old (turn_placed program own_row t old sound there refl).sees.named in
    let outcome : outcome_of t program scene ≡ Some (record { scene = scene_of new; event = event }) =
    ap (λ (r : Row). outcome_in thread.status r t program scene) (sym at) ∙ is in
    let back = undone_within reach t old new (reached program t old sound there) there stored
    (subst (BackIf reach t scene) outcome (back_in thread.status own_row t program scene named there))
    (subst (λ (r : Row). PhasersWithin (reach_in thread.status r (top_of thread.stack)) old.phasers new.phasers) at within) in
    record {
      outcome_is = outcome;
      sound = λ steps few was. sound_outcome program steps t scene (record { scene = scene_of new; event = event }) was few there outcome;
      undo = back.undo;
      can = back.can;
      threads = back.threads;
    }

-- an expiry
pub expiry_played : (program : Program) (t : ℕ) (old new : StoredScene) (event : Event) → IsSound program 2147483646 (scene_of old)
    → t < length old.threads → IsStored old.phasers
    → outcome_of_expiry t program (scene_of old) ≡ Some (record { scene = scene_of new; event = event })
    → PhasersWithin (reach_of t program (scene_of old)) old.phasers new.phasers
    → IsPlayed (outcome_of_expiry t program (scene_of old)) t program old new event
expiry_played program t old new event sound there stored is within =
    let scene = scene_of old in
    let thread = thread_at scene t in
    let row = row_at program.rows thread.pc in
    let reach = reach_of t program scene in
    let back = undone_within reach t old new (reached program t old sound there) there stored
    (subst (BackIf reach t scene) is
    (either (BackIf reach t scene) (is_ready t program scene) {a = None} tt (back_timeout thread.status row t scene there))) within in
    record {
      outcome_is = is;
      sound = λ steps few was. sound_timeout program steps t scene (record { scene = scene_of new; event = event }) was few there is;
      undo = back.undo;
      can = back.can;
      threads = back.threads;
    }

-- a note gives back the same, whatever is kept of whose turn is ready
pub played_still : (outcome : Option Outcome) (t : ℕ) (program : Program) (old new : StoredScene) (set : ReadySet) (event : Event)
    → IsPlayed outcome t program old new event → IsPlayed outcome t program old (record new { ready = set }) event
played_still outcome t program old new set event is = grind arith
