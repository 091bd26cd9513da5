-- The sets that are kept of a scene: threads that aren't there, and what a step leaves of the sets.
use Rattle.std.proofs.Common.{◌≡◌, ◌≢◌, ◌∙◌, ℕ, arith, ◌≤◌, ◌==◌, ◌&&◌, not, Bool, true, false, ap, refl, sym, rules, length}
use Rattle.std.proofs.{Math.ListN.get_or-eq_default, lemmas.Bool.cases_eq}
use Rattle.instruction_table.specs.declared.row.Row.{Row}
use Rattle.cyclic_barrier.specs.ThreadSet.{has}
use Rattle.loader.specs.Program.{Program, row_at}
use Rattle.thread_state.specs.declared.status.Status.{Status}
use Rattle.machine_scene.specs.{declared.ready_set.ReadySet.ReadySet, Scene.Scene, Scene.no_thread, Scene.thread_at}
use Rattle.machine_scene.specs.{Outcomes.is_ready, Ready.may_be_blocked}
use Rattle.machine_scene.specs.ReadySet.{is_registering_in, is_registering, AreReady, IsSetAt, AreLooked, IsLooked, AreOthersReady, AreReadyBeside, interrupts, changes_tree, runs_on}
use Rattle.machine_scene.proofs.ReadyThreads.{ready_as_listed}
use Rattle.machine_scene.proofs.ThreadSets.{tested_at, all_right, apart_from, nobody, IsFilledTo, filled_all}
use Rattle.cyclic_barrier.proofs.WaitsLemmas.{has-none}

-- a thread that isn't there
nobody_there : (u : ℕ) (scene : Scene) → length scene.threads ≤ u → thread_at scene u ≡ no_thread
nobody_there u scene beyond = get_or-eq_default scene.threads no_thread beyond

pub none_ready : (u : ℕ) (program : Program) (scene : Scene) → length scene.threads ≤ u → is_ready u program scene ≡ false
none_ready u program scene beyond = grind (arith, nobody_there)

pub none_registering : (u : ℕ) (program : Program) (scene : Scene) → length scene.threads ≤ u → is_registering u program scene ≡ false
none_registering u program scene beyond = grind (arith, nobody_there)

-- one thread was looked at
pub looked : (program : Program) (t : ℕ) (before set : ReadySet) (scene : Scene)
    → IsSetAt t (is_ready t program scene) before.turns set.turns
    → IsSetAt t (is_registering t program scene) before.registering set.registering → IsLooked program t before set scene
looked program t before set scene turns registering = search (rules, tested_at)

-- all threads so far were
pub record AreAllLooked (program : Program) (k : ℕ) (set : ReadySet) (scene : Scene) : Type 0 where
  pub turns : IsFilledTo (λ u. is_ready u program scene) k set.turns
  pub registering : IsFilledTo (λ u. is_registering u program scene) k set.registering

pub all_ready : (program : Program) (k : ℕ) (set : ReadySet) (scene : Scene) → AreAllLooked program k set scene → length scene.threads ≤ k
    → AreReady program set scene
all_ready program k set scene all whole = grind (arith, filled_all, none_ready, none_registering)

-- no look is needed
if_nobody : (tree : Bool) (registering u : ℕ) → (tree ≡ true → registering ≡ 0) → (tree && has registering u) ≡ false
if_nobody false registering u none = refl
if_nobody true registering u none = ap (λ (set : ℕ). has set u) (none refl) ∙ has-none u

-- all are right after looks at the thread that is interrupted, and at the one that took the step
pub few_ready : (program : Program) (t : ℕ) (row : Row) (before rest set : ReadySet) (scene : Scene)
    → (changes_tree row ≡ true → before.registering ≡ 0) → AreOthersReady program t row before scene
    → AreLooked program (λ u. interrupts u row) before rest scene → IsLooked program t rest set scene → AreReady program set scene
few_ready program t row before rest set scene none was interrupted is = record {
  turns = λ u. all_right (t == u) (has set.turns u) (has rest.turns u) (is_ready u program scene) (is.turns u)
      (λ other. all_right (interrupts u row) (has rest.turns u) (has before.turns u) (is_ready u program scene) (interrupted.turns u)
      (λ free. was.turns u (apart_from t u other) free (if_nobody (changes_tree row) before.registering u none)));
  registering = λ u. all_right (t == u) (has set.registering u) (has rest.registering u) (is_registering u program scene) (is.registering u)
      (λ other. all_right (interrupts u row) (has rest.registering u) (has before.registering u) (is_registering u program scene) (interrupted.registering u)
      (λ free. was.registering u (apart_from t u other) free));
}

-- at a row at which nobody has to wait nobody is about to register
pub seldom_registers : (of : Status) (row : Row) → may_be_blocked row ≡ false → is_registering_in of row ≡ false
seldom_registers of row free = grind arith

-- somebody is in a set that isn't empty
pub somebody_registers : (set u : ℕ) → has set u ≡ true → set ≢ 0
somebody_registers set u is none = let empty = nobody u (sym (ap (λ (x : ℕ). has x u) none) ∙ is) in cc empty

-- the sets are right of all threads where they are of one, and of all others
all_beside : (test : ℕ → Bool) (t set : ℕ) → ((u : ℕ) → u ≢ t → has set u ≡ test u) → has set t ≡ test t → (u : ℕ) → has set u ≡ test u
all_beside test t set others own u = grind (arith, cases_eq)

free : (blocked : Bool) → not blocked ≡ true → blocked ≡ false
free true is = absurd (cc is)
free false is = refl

-- thread t runs on
abbrev pub RunsOn : ℕ → Program → Scene → Type 0
RunsOn t program scene = runs_on (thread_at scene t).status (row_at program.rows (thread_at scene t).pc) ≡ true

on_ready : (program : Program) (t : ℕ) (scene : Scene) → RunsOn t program scene → is_ready t program scene ≡ true
on_ready program t scene runs = grind (arith, ready_as_listed)

on_unregistered : (program : Program) (t : ℕ) (scene : Scene) → RunsOn t program scene → is_registering t program scene ≡ false
on_unregistered program t scene runs = grind (arith, seldom_registers, free)

-- nothing changes for it
pub runs_on_ready : (program : Program) (t : ℕ) (set : ReadySet) (scene : Scene) → AreReadyBeside program t set scene → has set.turns t ≡ true
    → has set.registering t ≡ false → RunsOn t program scene → AreReady program set scene
runs_on_ready program t set scene others turn apart runs = record {
  turns = all_beside (λ u. is_ready u program scene) t set.turns others.turns (turn ∙ sym (on_ready program t scene runs));
  registering = all_beside (λ u. is_registering u program scene) t set.registering others.registering
      (apart ∙ sym (on_unregistered program t scene runs));
}

-- it needs no closer look
pub looked_on : (program : Program) (t : ℕ) (before set : ReadySet) (scene : Scene) → RunsOn t program scene
    → IsSetAt t true before.turns set.turns → IsSetAt t false before.registering set.registering → IsLooked program t before set scene
looked_on program t before set scene runs turns registering = grind (arith, looked, on_ready, on_unregistered)

-- one is looked at
pub looked_ready : (program : Program) (t : ℕ) (before set : ReadySet) (scene : Scene) → AreReadyBeside program t before scene
    → IsLooked program t before set scene → AreReady program set scene
looked_ready program t before set scene others is = grind (arith, all_right, apart_from)
