-- Into an advance routine, and out of it.
use Rattle.std.proofs.Common.{inl, inr, ◌≡◌, ◌≢◌, ◌∙◌, ℕ, ℤ, ◌+◌, ◌-◌, ◌<◌, ◌≤◌, ◌==◌, Bool, true, false, List, [], ◌∷◌, ◌++◌, take, length, ap, refl, sym, subst, arith, Some, slice_set, count_by, All}
use Rattle.std.proofs.lemmas.{Bool.cases_eq, List.Elements.All-take, List.Elements.All-push}
use Rattle.tier_tree.specs.declared.arrived.Arrived.TheVariants as arrived
use Rattle.tier_tree.specs.{declared.id.PhaserId.PhaserId, Forest.PhaserState, Forest.flat_at, Forest.root_at}
use Rattle.tier_tree.specs.{Arrival.Arrives, Arrival.arrival, PhaseEnd.after_phase_end, Trees.AreTrees, Trees.is_pending}
use Rattle.tier_tree.proofs.Trees.{CanEnd, trees_arrived, trees_turned, arrived_can_turn, if_turning, more_trees}
use Rattle.tier_tree.proofs.Stands.{same-is, other-is}
use Rattle.loader.specs.Program.{Program}
use Rattle.thread_state.specs.{declared.frame.Frame.Frame, Frame.is_advance, Frame.is_action}
use Rattle.thread_state.specs.Thread.{ThreadState, Turn, top_of, turn_of_advance}
use Rattle.thread_state.specs.declared.frame.Frame.TheVariants as frame
use Rattle.machine_scene.specs.Scene.{Scene, thread_at, with_phasers, outcome_of_turn}
use Rattle.machine_scene.specs.Sound.{IsFrame, IsSound, bit}
use Rattle.machine_scene.proofs.{Entries.entries-pop, Entries.entries-push, Facts.IsFree, Facts.placed_at}
use Rattle.machine_scene.proofs.{Soundness.sound_by, Soundness.waits_same, Plain.both_free, Plain.pending_more}

pub least : (b : Bool) → bit b ≤ 1
least true = omega arith
least false = omega arith

pub other-no : (m n : ℕ) → n ≢ m → (m == n) ≡ false
other-no m n apart = other-is m n (λ is. apart (sym is))

-- what is known of the root that the last arrival of a tree turns
pub turning_root : (steps id : ℕ) (leave : Bool) (phasers : List PhaserState) (root : PhaserId) (phase : _) (parties : ℕ)
    → AreTrees steps phasers → steps < 2147483647 → id < length phasers → (arrival id leave phasers).answer ≡ arrived.Turning root phase parties
    → (root.0 ≡ root_at phasers id) × (is_pending (flat_at phasers root.0) ≡ false) × CanEnd root.0 (arrival id leave phasers).phasers
turning_root steps id leave phasers root phase parties trees few there is =
    let all : Arrives = arrival id leave phasers in
    if_turning all.answer
    (λ own. (own.0 ≡ root_at phasers id) × (is_pending (flat_at phasers own.0) ≡ false) × CanEnd own.0 all.phasers)
    (arrived_can_turn steps id leave phasers trees few there) root phase parties is

-- into a routine: the root gets its one entry as it gets pending
enters_balance : (before after : List PhaserState) (root : ℕ) (stack : List Frame) (registers : List ℤ) (pc r : ℕ)
    → (is_pending (flat_at before r) ≡ true → is_pending (flat_at after r) ≡ true)
    → is_pending (flat_at before root) ≡ false → is_pending (flat_at after root) ≡ true
    → count_by (is_advance r) (stack ++ frame.Advance root registers pc ∷ []) + bit (is_pending (flat_at before r))
    ≤ count_by (is_advance r) stack + bit (is_pending (flat_at after r))
enters_balance before after root stack registers pc r stays was now = grind (arith, entries-push, cases_eq, least, other-no, pending_more)

pub sound_enter : (program : Program) (steps t p : ℕ) (leave : Bool) (scene : Scene) (root : PhaserId) (phase : ℤ) (parties count first : ℕ)
    → IsSound program steps scene → steps < 2147483647 → t < length scene.threads → p < length scene.phasers
    → (thread_at scene t).pc + 1 < length program.rows → first < length program.rows → IsFree (thread_at scene t).status
    → (arrival p leave scene.phasers).answer ≡ arrived.Turning root phase parties
    → IsSound program (steps + 1)
    (outcome_of_turn (turn_of_advance root.0 phase count first (thread_at scene t)) t (with_phasers (arrival p leave scene.phasers).phasers scene)).scene
sound_enter program steps t p leave scene root phase parties count first sound few there phaser next within free is =
    let before = thread_at scene t in
    let after = (arrival p leave scene.phasers).phasers in
    let turn : Turn = turn_of_advance root.0 phase count first before in
    let new_scene : Scene = (outcome_of_turn turn t (with_phasers after scene)).scene in
    let facts = turning_root steps p leave scene.phasers root phase parties sound.trees few phaser is in
    let kept = more_trees steps scene.phasers after (trees_arrived steps p leave scene.phasers sound.trees phaser) in
    let can = facts.2 in
    let root_there = can.there in
    let many = kept.many in
    let now : is_pending (flat_at after root.0) ≡ true = rw (can.turned) refl in
    sound_by program steps (steps + 1) t turn.thread scene new_scene sound there (record {
      threads = refl;
      many = many;
      roots = kept.places.roots;
      barriers = refl;
      trees = kept.trees;
      placed = record {
        pc = within;
        stack = All-push (IsFrame program scene) before.stack (frame.Advance root.0 before.registers before.pc)
            (placed_at program steps scene t sound there).stack
            (next, (omega (arith, many, root_there), sym (kept.places.roots root.0) ∙ can.top));
      };
      advances = λ r inside top.
          enters_balance scene.phasers after root.0 before.stack before.registers before.pc r (kept.pending r top) facts.1 now;
      actions = λ b. let pushed = entries-push (is_action b) before.stack (frame.Advance root.0 before.registers before.pc) in omega (arith, pushed);
      room = λ b. refl;
      waits = waits_same program steps t turn.thread scene new_scene sound there refl (λ b u. refl)
          (both_free program turn.thread before free free);
    })

-- out of a routine: the root loses its one entry as its phase ends
pub sound_turn_end : (program : Program) (steps t root row : ℕ) (registers : List ℤ) (ends : Bool) (scene : Scene) (thread : ThreadState)
    → IsSound program steps scene → t < length scene.threads → CanEnd root scene.phasers
    → top_of (thread_at scene t).stack ≡ Some (frame.Advance root registers row)
    → thread.stack ≡ take (length (thread_at scene t).stack - 1) (thread_at scene t).stack
    → thread.pc < length program.rows → IsFree thread.status → IsFree (thread_at scene t).status
    → IsSound program (steps + 1)
    (record scene { threads = slice_set scene.threads t thread; phasers = after_phase_end root ends scene.phasers })
sound_turn_end program steps t root row registers ends scene thread sound there can is stack within free free_before =
    let before = thread_at scene t in
    let phasers = after_phase_end root ends scene.phasers in
    let after : Scene = record scene { threads = slice_set scene.threads t thread; phasers = phasers } in
    let turned = trees_turned steps root ends scene.phasers sound.trees can in
    sound_by program steps (steps + 1) t thread scene after sound there (record {
      threads = refl;
      many = turned.many;
      roots = turned.places.roots;
      barriers = refl;
      trees = turned.trees;
      placed = record {
        pc = within;
        stack = subst (All (IsFrame program scene)) (sym stack)
            (All-take (IsFrame program scene) (length before.stack - 1) before.stack (placed_at program steps scene t sound there).stack);
      };
      advances = λ r within_r top.
          let popped = entries-pop (is_advance r) before.stack (frame.Advance root registers row) is in
          let most = least (is_pending (flat_at scene.phasers r)) in
          rw stack (elim (cases_eq r root) as (λ _. count_by (is_advance r) (take (length before.stack - 1) before.stack) + bit (is_pending (flat_at scene.phasers r))
          ≤ count_by (is_advance r) before.stack + bit (is_pending (flat_at phasers r))) [
            | inl same ↦
                let one : bit (is_advance r (frame.Advance root registers row)) ≡ 1 =
                ap bit (ap (λ (n : ℕ). root == n) same ∙ same-is root) in
                omega (arith, popped, one, most)
            | inr apart ↦
                let pends = pending_more (is_pending (flat_at scene.phasers r)) (is_pending (flat_at phasers r)) (turned.pending r apart top) in
                omega (arith, popped, pends)
          ]);
      actions = λ b. let popped = entries-pop (is_action b) before.stack (frame.Advance root registers row) is in rw stack (omega (arith, popped));
      room = λ b. refl;
      waits = waits_same program steps t thread scene after sound there refl (λ b u. refl) (both_free program thread before free free_before);
    })
