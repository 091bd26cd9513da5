-- What each call of the trees makes of them in a turn.
use Rattle.std.proofs.Common.{inl, inr, ◌≡◌, ◌≢◌, ◌∙◌, ℕ, ℤ, zero, suc, ◌<◌, ◌==◌, Bool, true, false, List, [], ◌∷◌, length, map, ap, refl, sym, arith, if◌then◌else◌, ◌||◌, Option, Some, None, get_or-set_same, get_or-set_other}
use Rattle.std.proofs.lemmas.{Bool.cases_eq, List.length-map}
use Rattle.instruction_table.specs.declared.row.Row.{Row, TheVariants.Pforce}
use Rattle.phase_number.specs.Phase.{next_phase}
use Rattle.packed_phaser.specs.{declared.policy.Policy.Policy, Flat.Flat, Policy.ends}
use Rattle.tier_tree.specs.{declared.id.PhaserId.PhaserId, Answer.KeepsEnds, Registration.after_registration, Arrival.arrival}
use Rattle.tier_tree.specs.Forest.{PhaserState, phaser_at, flat_at, root_of, root_at}
use Rattle.tier_tree.specs.{PhaseEnd.follow, PhaseEnd.in_step, PhaseEnd.after_phase_end, PhaseEnd.after_force, Sound.IsForest}
use Rattle.tier_tree.specs.{Origin.IsSteady, Trees.AreTrees}
use Rattle.tier_tree.specs.declared.arrived.Arrived.TheVariants as arrived
use Rattle.tier_tree.proofs.{Kept.registration-ends, Kept.arrival-ends, Kept.force-ends, Stands.same-is, Stands.other-is}
use Rattle.tier_tree.proofs.Trees.{CanEnd, trees_arrived, policy_same}
use Rattle.tier_tree.proofs.Turned.{turn_change, force_change, root-root}
use Rattle.thread_state.specs.Thread.{ThreadState}
use Rattle.machine_scene.specs.PhaserRows.{is_routine_policy}
use Rattle.machine_scene.proofs.Routines.{turning_root}
use Rattle.machine_scene.proofs.Standings.{Standing, standing_of, registration-standings, arrival-standings}
use Rattle.thread_machine.specs.DirectCounts.{has_ended_phase}
use Rattle.headline.specs.PhaseEnds.{answer_at, is_force, on_advance, NumbersGoOn, TerminateAsSaid}
use Rattle.headline.proofs.Prompt.{ArePrompt, registration_prompt, arrival_prompt, change_prompt}

-- a row that terminates no tree by force
abbrev pub IsQuiet : Option Row → Type 0
IsQuiet (Some (Pforce p)) = ⊥
IsQuiet _ = Unit {0}

no_force : (row : Option Row) → IsQuiet row → (root : ℕ) (phasers : List PhaserState) → is_force row root phasers ≡ false
no_force row quiet root phasers = grind arith

or_no : (a b : Bool) → b ≡ false → (a || b) ≡ a
or_no true b is = refl
or_no false b is = is

or_yes : (a b : Bool) → b ≡ true → (a || b) ≡ true
or_yes true b is = refl
or_yes false b is = is

-- what a turn at this row may make of the trees
pub record TreesGo (row : Option Row) (thread : ThreadState) (before after : List PhaserState) : Type 0 where
  pub said : TerminateAsSaid row thread before after
  pub numbers : NumbersGoOn before after
  pub prompt : ArePrompt before → ArePrompt after

pub none_ended : (before after : List PhaserState) → KeepsEnds before after → (root : ℕ) → has_ended_phase root before after ≡ false
none_ended before after kept root = grind arith

-- no phase ends, and no tree is terminated
pub trees_stay : (row : Option Row) (thread : ThreadState) (phasers : List PhaserState) → IsQuiet row → TreesGo row thread phasers phasers
trees_stay row thread phasers quiet = grind (arith, none_ended, or_no, no_force)

pub trees_registered : (row : Option Row) (thread : ThreadState) (id count : ℕ) (phasers : List PhaserState) → IsQuiet row
    → TreesGo row thread phasers (after_registration id count phasers)
trees_registered row thread id count phasers quiet =
    grind (arith, registration-ends, registration-standings, registration_prompt, none_ended, or_no, no_force)

pub follow_keeps : (phase : ℕ) (ends : Bool) (f : Flat) → ((follow phase ends f).ended ≡ ends) × ((follow phase ends f).parties ≡ f.parties)
follow_keeps phase true f = (refl, refl)
follow_keeps phase false f = (refl, refl)

-- a termination by force
pub trees_forced : (thread : ThreadState) (p : ℕ) (phasers : List PhaserState) → IsForest phasers → p < length phasers
    → TreesGo (Some (Pforce p)) thread phasers (after_force p phasers)
trees_forced thread p phasers forest there_p =
    let top = (root-root phasers (phaser_at phasers p).line p forest there_p refl).0 in
    let after = after_force p phasers in
    let root = root_at phasers p in
    let change = force_change p phasers in
    record {
      said = λ id there. (
        λ ended. (let none = none_ended phasers after (force-ends p phasers) (root_at phasers id) in absurd (cc (none, ended))),
        λ none. elim (cases_eq root (root_at phasers id)) as (λ _. (flat_at after id).ended ≡ ((flat_at phasers id).ended || is_force (Some (Pforce p)) (root_at phasers id) phasers)) [
          | inl same ↦
              let now = change.inside id there (sym same) in
              ap (λ (f : Flat). f.ended) now.1 ∙ (follow_keeps now.0 true (flat_at phasers id)).0
              ∙ sym (or_yes (flat_at phasers id).ended (root == root_at phasers id) (ap (λ n. root == n) (sym same) ∙ same-is root))
          | inr apart ↦
              ap (λ (f : Flat). f.ended) (change.apart id there (λ same. apart (sym same)))
              ∙ sym (or_no (flat_at phasers id).ended (root == root_at phasers id) (other-is root (root_at phasers id) apart))
        ],
      );
      numbers = λ id there ended. (let none = none_ended phasers after (force-ends p phasers) (root_at phasers id) in absurd (cc (none, ended)));
      prompt = change_prompt root true phasers after change;
    }

-- the count of phase ends grows at the root alone
if-ends : (here : Bool) (x : PhaserState) (flat : Flat) → (if here then record x { flat = flat } else x).ends ≡ x.ends
if-ends true x flat = refl
if-ends false x flat = refl

in_step-ends : (root phase : ℕ) (ended : Bool) (phasers : List PhaserState) (n : ℕ)
    → (phaser_at (map (in_step root phase ended) phasers) n).ends ≡ (phaser_at phasers n).ends
in_step-ends root phase ended [] n = refl
in_step-ends root phase ended (x ∷ phasers) zero = if-ends (root_of x == root) x (follow phase ended x.flat)
in_step-ends root phase ended (x ∷ phasers) (suc n) = in_step-ends root phase ended phasers n

pub root_ended : (root : ℕ) (ends : Bool) (before mid : List PhaserState) → KeepsEnds before mid → root < length mid
    → has_ended_phase root before (after_phase_end root ends mid) ≡ true
root_ended root ends before mid kept within = grind (arith, length-map, get_or-set_same, other-is)

pub others_ended : (root : ℕ) (ends : Bool) (before mid : List PhaserState) → KeepsEnds before mid → (r : ℕ) → r ≢ root
    → has_ended_phase r before (after_phase_end root ends mid) ≡ false
others_ended root ends before mid kept r apart = grind (arith, get_or-set_other, in_step-ends, same-is)

-- each phaser of the tree is then in the phase behind the root's
in_step-phase : (root phase : ℕ) (ended : Bool) (phasers : List PhaserState) (n : ℕ) → n < length phasers → root_at phasers n ≡ root
    → (flat_at (map (in_step root phase ended) phasers) n).phase ≡ phase
in_step-phase root phase ended [] n there inside = absurd (omega (arith, there))
in_step-phase root phase ended (x ∷ phasers) zero there inside = grind (arith, same-is)
in_step-phase root phase ended (x ∷ phasers) (suc n) there inside =
    in_step-phase root phase ended phasers n (omega (arith, there)) inside

next_number : (root : ℕ) (ends : Bool) (mid : List PhaserState) (id : ℕ) → id < length mid → root_at mid id ≡ root
    → (flat_at (after_phase_end root ends mid) id).phase ≡ next_phase (flat_at mid root).phase
next_number root ends mid id there inside = grind (arith, length-map, cases_eq, get_or-set_same, get_or-set_other, in_step-phase)

-- a phase of this root ends
pub trees_ended : (row : Option Row) (thread : ThreadState) (root : ℕ) (ends : Bool) (before mid : List PhaserState) → IsQuiet row
    → CanEnd root mid → length mid ≡ length before → ((id : ℕ) → root_at mid id ≡ root_at before id) → KeepsEnds before mid
    → ((id : ℕ) → standing_of (flat_at mid id) ≡ standing_of (flat_at before id)) → ((id : ℕ) → id < length before → IsSteady id before)
    → on_advance row thread root before (flat_at mid root).parties ≡ Some ends
    → (ArePrompt before → ArePrompt mid) → TreesGo row thread before (after_phase_end root ends mid)
trees_ended row thread root ends before mid quiet can many roots kept stood steady says prompt =
    let after = after_phase_end root ends mid in
    let change = turn_change root ends mid can.there can.top in
    let own = change.inside root can.there can.top in
    let same : (id : ℕ) → (flat_at mid id).ended ≡ (flat_at before id).ended = λ id. ap (λ (s : Standing). s.ended) (stood id) in
    let left : (flat_at after root).parties ≡ (flat_at mid root).parties =
    ap (λ (f : Flat). f.parties) own.1 ∙ (follow_keeps own.0 ends (flat_at mid root)).1 in
    record {
      said = λ id there.
          let inside_mid : id < length mid = omega (arith, many, there) in
          elim (cases_eq (root_at before id) root) as (λ _. (has_ended_phase (root_at before id) before after ≡ true
          → ((flat_at before id).ended ≡ false)
          × (on_advance row thread (root_at before id) before (flat_at after (root_at before id)).parties ≡ Some (flat_at after id).ended))
          × (has_ended_phase (root_at before id) before after ≡ false
          → (flat_at after id).ended ≡ ((flat_at before id).ended || is_force row (root_at before id) before))) [
            | inl inside ↦
                let now = change.inside id inside_mid (roots id ∙ inside) in
                let yes = root_ended root ends before mid kept can.there in (
                  λ ended. (
                    (steady id there).tree ∙ ap (λ r. (flat_at before r).ended) inside ∙ sym (same root) ∙ can.live,
                    ap (λ r. on_advance row thread r before (flat_at after r).parties) inside
                        ∙ ap (λ n. on_advance row thread root before n) left ∙ says
                        ∙ ap (λ b. Some b) (sym (ap (λ (f : Flat). f.ended) now.1 ∙ (follow_keeps now.0 ends (flat_at mid id)).0)),
                  ),
                  λ none. absurd (cc (yes, none, ap (λ r. has_ended_phase r before after) inside)),
                )
            | inr outside ↦
                let no = others_ended root ends before mid kept (root_at before id) outside in (
                  λ ended. absurd (cc (no, ended)),
                  λ none. ap (λ (f : Flat). f.ended) (change.apart id inside_mid (λ is_root. outside (sym (roots id) ∙ is_root))) ∙ same id
                      ∙ sym (or_no (flat_at before id).ended _ (no_force row quiet (root_at before id) before)),
                )
          ];
      numbers = λ id there ended.
          elim (cases_eq (root_at before id) root) as (λ _. (flat_at after id).phase ≡ next_phase (flat_at before (root_at before id)).phase) [
            | inl inside ↦
                next_number root ends mid id (omega (arith, many, there)) (roots id ∙ inside)
                ∙ ap (λ (s : Standing). next_phase s.phase) (stood root)
                ∙ ap (λ r. next_phase (flat_at before r).phase) (sym inside)
            | inr outside ↦
                let no = others_ended root ends before mid kept (root_at before id) outside in
                absurd (cc (no, ended))
          ];
      prompt = λ before. change_prompt root ends mid after change (prompt before);
    }

-- an arrival
abbrev pub arrived_at : ℕ → Bool → List PhaserState → List PhaserState
arrived_at id leave phasers = (arrival id leave phasers).phasers

-- one that ends no phase: it isn't the last, or a routine is to answer
pub trees_counted : (row : Option Row) (thread : ThreadState) (id : ℕ) (leave : Bool) (phasers : List PhaserState) → IsQuiet row
    → TreesGo row thread phasers (arrived_at id leave phasers)
trees_counted row thread id leave phasers quiet = grind (arith, arrival-ends, arrival-standings, arrival_prompt)

pub no_answer : (own : Policy) (phase parties : ℕ) → ends own phase parties ≡ None → is_routine_policy own ≡ true
no_answer own phase parties is = grind arith

-- at this row the policy of the tree of phaser p answers
abbrev pub AsksPolicy : Option Row → ThreadState → ℕ → List PhaserState → Type 0
AsksPolicy row thread p phasers =
    (parties : ℕ) → on_advance row thread (root_at phasers p) phasers parties ≡ answer_at p (root_at phasers p) phasers parties

asked : (p : ℕ) (phasers : List PhaserState) (parties : ℕ)
    → answer_at p (root_at phasers p) phasers parties
    ≡ ends (phaser_at phasers (root_at phasers p)).policy (flat_at phasers (root_at phasers p)).phase parties
asked p phasers parties = grind (arith, same-is)

-- the last, where the policy answers
pub trees_advanced : (row : Option Row) (thread : ThreadState) (steps id : ℕ) (leave : Bool) (phasers : List PhaserState) (root : PhaserId)
    (phase : ℤ) (parties : ℕ) (over : Bool) → IsQuiet row → AsksPolicy row thread id phasers → AreTrees steps phasers
    → steps < 2147483647 → id < length phasers → (arrival id leave phasers).answer ≡ arrived.Turning root phase parties
    → let mid = arrived_at id leave phasers in
    ends (phaser_at mid root.0).policy (flat_at mid root.0).phase (flat_at mid root.0).parties ≡ Some over
    → TreesGo row thread phasers (after_phase_end root.0 over mid)
trees_advanced row thread steps id leave phasers root phase parties over quiet asks trees few there is says =
    let mid = arrived_at id leave phasers in
    let kept = trees_arrived steps id leave phasers trees there in
    let turns = turning_root steps id leave phasers root phase parties trees few there is in
    let left = (flat_at mid root.0).parties in
    trees_ended row thread root.0 over phasers mid quiet turns.2 kept.many
    kept.places.roots (arrival-ends id leave phasers) (arrival-standings id leave phasers) trees.stands.1.steady
    (ap (λ r. on_advance row thread r phasers left) turns.0 ∙ asks left ∙ asked id phasers left
    ∙ ap (λ r. ends (phaser_at phasers r).policy (flat_at phasers r).phase left) (sym turns.0)
    ∙ ap (λ n. ends (phaser_at phasers root.0).policy n left) (sym (ap (λ (s : Standing). s.phase) (arrival-standings id leave phasers root.0)))
    ∙ ap (λ own. ends own (flat_at mid root.0).phase left) (sym (policy_same phasers mid kept.places root.0)) ∙ says)
    (arrival_prompt id leave phasers)
