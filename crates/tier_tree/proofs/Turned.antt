-- A phase end and a termination keep the counts of who registered and arrived where.
use Rattle.std.proofs.Common.{inl, inr, ◌≡◌, ◌≢◌, ◌∙◌, ℕ, suc, ◌+◌, ◌<◌, ◌≤◌, ◌==◌, Bool, true, false, List, [], ◌∷◌, length, map, ap, refl, sym, subst, arith, if◌then◌else◌, ◌&&◌, not, get_or-set_same, get_or-set_other}
use Rattle.std.proofs.lemmas.{Bool.cases_eq, Bool.Decides.nat_tests, List.length-map}
use Rattle.packed_phaser.specs.Flat.{Flat, advance, force}
use Rattle.tier_tree.specs.Forest.{PhaserState, no_phaser, phaser_at, flat_at, root_at}
use Rattle.tier_tree.specs.PhaseEnd.{follow, in_step, terminated, after_phase_end, after_force}
use Rattle.tier_tree.specs.Sound.{Place, place_of, places_of, IsForest}
use Rattle.tier_tree.specs.Origin.{Origin, is_under, children, IsTallied, IsSteady, AreTallied, origin_after_phase_end}
use Rattle.tier_tree.proofs.{Lines.length-places, Lines.turn-places, Lines.force-places, Balance.IsGood, Balance.next-parent}
use Rattle.tier_tree.proofs.Safe.{linked, line_own, last_of, rest_of, root-parent}
use Rattle.tier_tree.proofs.Stands.{root-same, same-is, other-is}

abbrev first_of : List Place → Place
first_of [] = place_of no_phaser
first_of (x ∷ xs) = x

abbrev others_of : List Place → List Place
others_of [] = []
others_of (x ∷ xs) = xs

one : (under after before : Bool) → (under ≡ true → after ≡ before)
    → let a : ℕ = (if under && after then 1 else 0) in let b : ℕ = (if under && before then 1 else 0) in a ≡ b
one true after before agree = let count : Bool → ℕ = λ (b : Bool). if b then 1 else 0 in ap count (agree refl)
one false after before agree = refl

-- children that pass another test before as they pass this one after
children-same : (test before_test : Flat → Bool) (parent : ℕ) (after phasers : List PhaserState) → places_of after ≡ places_of phasers
    → ((id : ℕ) → id < length phasers → is_under parent (phaser_at phasers id).line ≡ true
    → test (flat_at after id) ≡ before_test (flat_at phasers id))
    → children test parent after ≡ children before_test parent phasers
children-same test before_test parent [] [] same agree = refl
children-same test before_test parent (q ∷ after) (p ∷ phasers) same agree =
    let first : place_of q ≡ place_of p = ap first_of same in
    let others : places_of after ≡ places_of phasers = ap others_of same in
    let line : is_under parent q.line ≡ is_under parent p.line = ap (λ (x : Place). is_under parent x.line) first in
    let here = one (is_under parent p.line) (test q.flat) (before_test p.flat) (λ under. agree 0 (omega arith) under) in
    let rest = children-same test before_test parent after phasers others (λ id there. agree (suc id) (omega (arith, there))) in
    ap (λ (u : Bool). (if u && test q.flat then 1 else 0) + children test parent after) line
    ∙ ap (λ (n : ℕ). n + children test parent after) here
    ∙ ap (λ (n : ℕ). (if is_under parent p.line && before_test p.flat then 1 else 0) + n) rest
children-same test before_test parent _ _ same agree = absurd (cc)

-- the line of a child of this phaser
under-shape : (parent : ℕ) (line : List ℕ) → is_under parent line ≡ true → (own : ℕ) × (more : List ℕ) × (line ≡ own ∷ parent ∷ more)
under-shape parent line under = grind (arith, nat_tests)

abbrev head_of : List ℕ → ℕ
head_of [] = 0
head_of (x ∷ xs) = x

-- a child is in its parent's tree, and isn't the root
pub child-tree : (phasers : List PhaserState) (id parent : ℕ) → IsForest phasers → id < length phasers
    → is_under parent (phaser_at phasers id).line ≡ true → (parent < id) × (root_at phasers id ≡ root_at phasers parent)
child-tree phasers id parent sound there under =
    let shape = under-shape parent (phaser_at phasers id).line under in
    let own = line_own phasers id sound there in
    let same : shape.0 ≡ id = ap head_of (sym shape.2 ∙ own.1) in
    let line : (phaser_at phasers id).line ≡ id ∷ parent ∷ shape.1 = shape.2 ∙ ap (λ (n : ℕ). n ∷ parent ∷ shape.1) same in
    let next = next-parent phasers id parent shape.1 sound there line in
    grind (arith, root-parent)

-- a root is its own root, and is above none but its own tree
pub root-root : (phasers : List PhaserState) (line : List ℕ) (id : ℕ) → IsForest phasers → id < length phasers → (phaser_at phasers id).line ≡ line
    → (root_at phasers (root_at phasers id) ≡ root_at phasers id) × (root_at phasers id ≤ id)
root-root phasers [] id sound there is = let own = line_own phasers id sound there in absurd (cc (is, own.1))
root-root phasers (first ∷ above) id sound there is =
    elim (linked phasers id sound there) as (λ _. (root_at phasers (root_at phasers id) ≡ root_at phasers id) × (root_at phasers id ≤ id)) [
      | inl top ↦
          let same : root_at phasers id ≡ id = ap last_of top in
          (ap (root_at phasers) same, omega (arith, same))
      | inr child ↦
          let below : child.0 < id = child.1 in
          let within : child.0 < length phasers = omega (arith, below, there) in
          let same = root-parent phasers id child.0 sound within child.2 in
          let rest : (phaser_at phasers child.0).line ≡ above = ap rest_of (sym child.2 ∙ is) in
          let parents = root-root phasers above child.0 sound within rest in
          let least : root_at phasers child.0 ≤ child.0 = parents.1 in
          (ap (root_at phasers) same ∙ parents.0 ∙ sym same, omega (arith, same, least, below))
    ]

-- all phasers of one tree follow their root, and the others stay
pub record TreeChange (root : ℕ) (ends : Bool) (phasers after : List PhaserState) : Type 0 where
  pub same : places_of after ≡ places_of phasers
  pub apart : (id : ℕ) → id < length phasers → root_at phasers id ≢ root → flat_at after id ≡ flat_at phasers id
  pub inside : (id : ℕ) → id < length phasers → root_at phasers id ≡ root
      → (phase : ℕ) × (flat_at after id ≡ follow phase ends (flat_at phasers id))

follow-ended : (phase : ℕ) (ends : Bool) (f : Flat) → (follow phase ends f).ended ≡ ends
follow-ended phase true f = refl
follow-ended phase false f = refl

follow-good : (phase : ℕ) (ends : Bool) (f : Flat) (root id : ℕ) → IsGood root id (follow phase ends f)
follow-good phase true f root id = record { arrived = omega arith; turned = (λ yes. absurd (cc (yes))); child = (λ yes _. absurd (cc (yes))) }
follow-good phase false f root id = record { arrived = omega arith; turned = (λ yes. absurd (cc (yes))); child = (λ yes _. absurd (cc (yes))) }

joined-by : (ended turned : Bool) (parties : ℕ) → ended ≡ false → (turned ≡ true → 0 < parties)
    → not (parties == 0) ≡ not (if ended then false else (if turned then false else parties == 0))
joined-by true turned parties live some = absurd (cc)
joined-by false _ parties live some = grind (arith, nat_tests)

and-true : (b : Bool) → (b && true) ≡ b
and-true true = refl
and-true false = refl

-- what the counts beside the forest become
pub record Resets (root : ℕ) (ends : Bool) (phasers : List PhaserState) (origin other : Origin) : Type 0 where
  pub stray : (r : ℕ) → other.stray r ≡ origin.stray r
  pub apart : (id : ℕ) → root_at phasers id ≢ root → (other.registered id ≡ origin.registered id) × (other.unarrived id ≡ origin.unarrived id)
  pub inside : ends ≡ false → (id : ℕ) → root_at phasers id ≡ root
      → (other.registered id ≡ origin.registered id) × (other.unarrived id ≡ origin.registered id)

going_tallied : (phasers after : List PhaserState) (origin other : Origin) (root id : ℕ) → IsForest phasers → root < length phasers → id < length phasers
    → AreTallied phasers origin → origin.stray root ≡ false → (flat_at phasers root).ended ≡ false
    → TreeChange root false phasers after → root_at phasers id ≡ root
    → other.registered id ≡ origin.registered id → other.unarrived id ≡ origin.registered id → IsTallied other id after
going_tallied phasers after origin other root id sound within there stands clean live change tree registered unarrived =
    let open_at : (n : ℕ) → n < length phasers → root_at phasers n ≡ root → (flat_at phasers n).ended ≡ false =
    λ n here inside. (stands.steady n here).tree ∙ ap (λ (m : ℕ). (flat_at phasers m).ended) inside ∙ live in
    let tally = stands.tallied id there (ap origin.stray tree ∙ clean) (open_at id there tree) in
    grind (arith, child-tree, root-root, joined-by, children-same, and-true)

-- a phaser outside keeps its counts
apart_tallied : (phasers after : List PhaserState) (origin other : Origin) (root id : ℕ) (ends : Bool) → IsForest phasers → id < length phasers
    → root_at phasers id ≢ root → TreeChange root ends phasers after → IsTallied origin id phasers
    → other.registered id ≡ origin.registered id → other.unarrived id ≡ origin.unarrived id → IsTallied other id after
apart_tallied phasers after origin other root id ends sound there outside change tally registered unarrived =
    grind (arith, child-tree, children-same)

-- a phaser of the tree is as steady as those of a phase that begins, and each other stays so
apart_steady : (phasers after : List PhaserState) (root id : ℕ) (ends : Bool) → IsForest phasers → id < length phasers → IsSteady id phasers
    → TreeChange root ends phasers after → root_at phasers id ≢ root → IsSteady id after
apart_steady phasers after root id ends sound there was change outside = grind (arith, root-same, root-root)

inside_steady : (phasers after : List PhaserState) (root id : ℕ) (ends : Bool) → IsForest phasers → id < length phasers
    → TreeChange root ends phasers after → root_at phasers id ≡ root → IsSteady id after
inside_steady phasers after root id ends sound there change inside = grind (arith, root-same, root-root, follow-ended, follow-good)

-- a change of one tree
pub stands_reset : (phasers after : List PhaserState) (origin other : Origin) (root : ℕ) (ends : Bool) → IsForest phasers → root < length phasers
    → root_at phasers root ≡ root → (ends ≡ false → (flat_at phasers root).ended ≡ false) → AreTallied phasers origin
    → TreeChange root ends phasers after → Resets root ends phasers origin other → AreTallied after other
stands_reset phasers after origin other root ends sound within top live stands change resets =
    let many : length after ≡ length phasers = sym (length-places after) ∙ ap length change.same ∙ length-places phasers in
    record {
      steady = λ id here.
          let there : id < length phasers = omega (arith, many, here) in
          elim (cases_eq (root_at phasers id) root) as (λ _. IsSteady id after) [
            | inl inside ↦ inside_steady phasers after root id ends sound there change inside
            | inr outside ↦ apart_steady phasers after root id ends sound there (stands.steady id there) change outside
          ];
      tallied = λ id here clean still.
          let there : id < length phasers = omega (arith, many, here) in
          let clean_before : origin.stray (root_at phasers id) ≡ false =
          sym (resets.stray (root_at phasers id)) ∙ ap other.stray (sym (root-same phasers after id change.same)) ∙ clean in
          elim (cases_eq (root_at phasers id) root) as (λ _. IsTallied other id after) [
            | inl inside ↦
                let now = change.inside id there inside in
                let going : ends ≡ false = sym (ap (λ (f : Flat). f.ended) now.1 ∙ follow-ended now.0 ends (flat_at phasers id)) ∙ still in
                let counts = resets.inside going id inside in
                going_tallied phasers after origin other root id sound within there stands (ap origin.stray (sym inside) ∙ clean_before) (live going)
                (subst (λ (e : Bool). TreeChange root e phasers after) going change) inside counts.0 counts.1
            | inr outside ↦
                let flat = change.apart id there outside in
                let counts = resets.apart id outside in
                apart_tallied phasers after origin other root id ends sound there outside change
                (stands.tallied id there clean_before (ap (λ (f : Flat). f.ended) (sym flat) ∙ still)) counts.0 counts.1
          ];
    }

-- each phaser of a mapped forest
map-at : (f : PhaserState → PhaserState) (phasers : List PhaserState) (id : ℕ) → id < length phasers
    → phaser_at (map f phasers) id ≡ f (phaser_at phasers id)
map-at f (p ∷ phasers) (suc id) there = map-at f phasers id (omega (arith, there))
map-at f phasers id there = grind arith

forced_flat : (phasers : List PhaserState) (root id : ℕ) → id < length phasers
    → flat_at (map (terminated root) phasers) id ≡ (if root_at phasers id == root then force (flat_at phasers id) else flat_at phasers id)
forced_flat phasers root id there = grind (arith, map-at)

pub force_change : (id : ℕ) (phasers : List PhaserState) → TreeChange (root_at phasers id) true phasers (after_force id phasers)
force_change id phasers = record {
  same = force-places id phasers;
  apart = λ n there outside. forced_flat phasers (root_at phasers id) n there
      ∙ ap (λ (t : Bool). if t then force (flat_at phasers n) else flat_at phasers n) (other-is (root_at phasers n) (root_at phasers id) outside);
  inside = λ n there tree. (
    (flat_at phasers n).phase,
    forced_flat phasers (root_at phasers id) n there
        ∙ ap (λ (t : Bool). if t then force (flat_at phasers n) else flat_at phasers n) (ap (λ (m : ℕ). m == root_at phasers id) tree ∙ same-is (root_at phasers id)),
  );
}

pub stands_after_force : (id : ℕ) (phasers after : List PhaserState) (origin : Origin) → IsForest phasers → id < length phasers
    → after ≡ after_force id phasers → AreTallied phasers origin → AreTallied after origin
stands_after_force id phasers after origin sound there is stands =
    let up = root-root phasers (phaser_at phasers id).line id sound there refl in
    let least : root_at phasers id ≤ id = up.1 in
    subst (λ (ps : List PhaserState). AreTallied ps origin) (sym is)
    (stands_reset phasers (after_force id phasers) origin origin (root_at phasers id) true sound (omega (arith, least, there)) up.0
    (λ no_end. absurd (cc (no_end))) stands (force_change id phasers)
    (record { stray = λ r. refl; apart = λ n outside. (refl, refl); inside = λ no_end. absurd (cc (no_end)) }))

advance-follows : (ends : Bool) (f : Flat) → advance ends f ≡ follow (advance ends f).phase ends f
advance-follows true f = refl
advance-follows false f = refl

step_flat : (phasers : List PhaserState) (root phase : ℕ) (ends : Bool) (id : ℕ) → id < length phasers
    → flat_at (map (in_step root phase ends) phasers) id
    ≡ (if root_at phasers id == root then follow phase ends (flat_at phasers id) else flat_at phasers id)
step_flat phasers root phase ends id there = grind (arith, map-at)

pub turn_change : (root : ℕ) (ends : Bool) (phasers : List PhaserState) → root < length phasers → root_at phasers root ≡ root
    → TreeChange root ends phasers (after_phase_end root ends phasers)
turn_change root ends phasers within top =
    let before = phaser_at phasers root in
    let flat = advance ends before.flat in
    let moved = map (in_step root flat.phase ends) phasers in
    let new : PhaserState = record before { flat = flat; ends = before.ends + 1 } in
    let many : length moved ≡ length phasers = length-map phasers (in_step root flat.phase ends) in
    let other_flat : (n : ℕ) → n ≢ root → flat_at (after_phase_end root ends phasers) n ≡ flat_at moved n =
    λ n apart. ap (λ (p : PhaserState). p.flat) (get_or-set_other moved root n new no_phaser apart) in
    record {
      same = turn-places root ends phasers;
      apart = λ n there outside.
          other_flat n (λ is. outside (ap (root_at phasers) is ∙ top)) ∙ step_flat phasers root flat.phase ends n there
          ∙ ap (λ (t : Bool). if t then follow flat.phase ends (flat_at phasers n) else flat_at phasers n) (other-is (root_at phasers n) root outside);
      inside = λ n there tree. (
        flat.phase,
        elim (cases_eq n root) as (λ _. flat_at (after_phase_end root ends phasers) n ≡ follow flat.phase ends (flat_at phasers n)) [
          | inl is ↦ subst (λ (m : ℕ). flat_at (after_phase_end root ends phasers) m ≡ follow flat.phase ends (flat_at phasers m)) (sym is)
              (ap (λ (p : PhaserState). p.flat) (get_or-set_same moved root new no_phaser (omega (arith, many, within))) ∙ advance-follows ends before.flat)
          | inr apart ↦ other_flat n apart ∙ step_flat phasers root flat.phase ends n there
              ∙ ap (λ (t : Bool). if t then follow flat.phase ends (flat_at phasers n) else flat_at phasers n)
              (ap (λ (m : ℕ). m == root) tree ∙ same-is root)
        ],
      );
    }

pub stands_after_phase_end : (root : ℕ) (ends : Bool) (phasers after : List PhaserState) (origin : Origin) → IsForest phasers → root < length phasers
    → root_at phasers root ≡ root → (flat_at phasers root).ended ≡ false → after ≡ after_phase_end root ends phasers → AreTallied phasers origin
    → AreTallied after (origin_after_phase_end root phasers origin)
stands_after_phase_end root ends phasers after origin sound within top live is stands =
    subst (λ (ps : List PhaserState). AreTallied ps (origin_after_phase_end root phasers origin)) (sym is)
    (stands_reset phasers (after_phase_end root ends phasers) origin (origin_after_phase_end root phasers origin) root ends sound within top (λ _. live) stands
    (turn_change root ends phasers within top)
    (record {
      stray = λ r. refl;
      apart = λ n outside. (refl, ap (λ (t : Bool). if t then origin.registered n else origin.unarrived n) (other-is (root_at phasers n) root outside));
      inside = λ going n tree. (
        refl,
        ap (λ (t : Bool). if t then origin.registered n else origin.unarrived n)
            (ap (λ (m : ℕ). m == root) tree ∙ same-is root),
      );
    }))
