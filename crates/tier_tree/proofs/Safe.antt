-- When a root without strays is turned, everybody in its tree has arrived.
use Rattle.std.proofs.Common.{inl, inr, ◌≡◌, ◌∙◌, ℕ, suc, ◌-◌, ◌<◌, Bool, true, false, List, [], ◌∷◌, length, ap, sym, subst, arith, ◌⊎◌, slice_index_or}
use Rattle.std.proofs.lemmas.Bool.Decides.{nat_tests}
use Rattle.packed_phaser.specs.Flat.{Flat, is_empty, unarrived_of}
use Rattle.tier_tree.specs.{Forest.PhaserState, Forest.phaser_at, Forest.flat_at, Forest.root_at, Sound.IsForest}
use Rattle.tier_tree.specs.Origin.{Origin, is_under, children, is_awaited, IsSteady, AreTallied, HaveAllArrived}
use Rattle.tier_tree.proofs.Lines.{place_at-places, length-places}

-- the line of a phaser is its own number, or that and the line of its parent
pub linked : (phasers : List PhaserState) (id : ℕ) → IsForest phasers → id < length phasers
    → ((phaser_at phasers id).line ≡ id ∷ [])
    ⊎ ((parent : ℕ) × (parent < id) × ((phaser_at phasers id).line ≡ id ∷ (phaser_at phasers parent).line))
linked phasers id sound there = grind (arith, length-places, place_at-places)

-- a child of a phaser without children that pass the test doesn't pass it
none-passes : (test : Flat → Bool) (parent : ℕ) (phasers : List PhaserState) (id : ℕ) → children test parent phasers ≡ 0
    → id < length phasers → is_under parent (phaser_at phasers id).line ≡ true → test (flat_at phasers id) ≡ false
none-passes test parent (p ∷ phasers) (suc id) none there under =
    none-passes test parent phasers id (omega (arith, none)) (omega (arith, there)) under
none-passes test parent phasers id none there under = grind arith

-- a phaser is turned or empty
abbrev pub HasAll : Flat → Type 0
HasAll flat = (flat.turned ≡ true) ⊎ (is_empty flat ≡ true)

not_awaited : (flat : Flat) → is_awaited flat ≡ false → HasAll flat
not_awaited flat none = grind arith

-- such a phaser isn't terminated, and waits for nobody
pub all_there : (id : ℕ) (phasers : List PhaserState) → IsSteady id phasers → HasAll (flat_at phasers id)
    → ((flat_at phasers id).ended ≡ false) × (unarrived_of (flat_at phasers id) ≡ 0)
all_there id phasers steady given = grind arith

under-parent : (line : List ℕ) (id parent : ℕ) (above : List ℕ) → line ≡ id ∷ parent ∷ above → is_under parent line ≡ true
under-parent line id parent above is = grind (arith, nat_tests)

-- a line begins with the phaser's own number
pub line_own : (phasers : List PhaserState) (id : ℕ) → IsForest phasers → id < length phasers
    → (above : List ℕ) × ((phaser_at phasers id).line ≡ id ∷ above)
line_own phasers id sound there =
    elim (linked phasers id sound there) as (λ _. (above : List ℕ) × ((phaser_at phasers id).line ≡ id ∷ above)) [
      | inl root ↦ ([], root)
      | inr child ↦ ((phaser_at phasers child.0).line, child.2)
    ]

abbrev pub last_of : List ℕ → ℕ
last_of line = slice_index_or line (length line - 1) 0

pub last-more : (id x : ℕ) (rest : List ℕ) → last_of (id ∷ x ∷ rest) ≡ last_of (x ∷ rest)
last-more id x rest = grind arith

abbrev pub rest_of : List ℕ → List ℕ
rest_of [] = []
rest_of (x ∷ rest) = rest

-- a child's root is its parent's
pub root-parent : (phasers : List PhaserState) (id parent : ℕ) → IsForest phasers → parent < length phasers
    → (phaser_at phasers id).line ≡ id ∷ (phaser_at phasers parent).line → root_at phasers id ≡ root_at phasers parent
root-parent phasers id parent sound within is =
    let own = line_own phasers parent sound within in
    ap last_of is ∙ ap (λ (l : List ℕ). last_of (id ∷ l)) own.1 ∙ last-more id parent own.0 ∙ ap last_of (sym own.1)

-- below a turned root without strays each phaser is turned or empty
pub all_turned : (phasers : List PhaserState) (origin : Origin) (root : ℕ) → IsForest phasers → AreTallied phasers origin
    → origin.stray root ≡ false → (flat_at phasers root).turned ≡ true → (line : List ℕ) (id : ℕ) → id < length phasers
    → (phaser_at phasers id).line ≡ line → root_at phasers id ≡ root → HasAll (flat_at phasers id)
all_turned phasers origin root sound stands clean turned [] id there is tree =
    let own = line_own phasers id sound there in absurd (cc (is, own.1))
all_turned phasers origin root sound stands clean turned (first ∷ above) id there is tree =
    elim (linked phasers id sound there) as (λ _. HasAll (flat_at phasers id)) [
      | inl top ↦
          let same : root_at phasers id ≡ id = ap last_of top in
          inl (subst (λ (n : ℕ). (flat_at phasers n).turned ≡ true) (sym tree ∙ same) turned)
      | inr child ↦
          let parent = child.0 in
          let below : parent < id = child.1 in
          let within : parent < length phasers = omega (arith, below, there) in
          let rest : (phaser_at phasers parent).line ≡ above = ap rest_of (sym child.2 ∙ is) in
          let same : root_at phasers parent ≡ root = sym (root-parent phasers id parent sound within child.2) ∙ tree in
          let parents : HasAll (flat_at phasers parent) =
          all_turned phasers origin root sound stands clean turned above parent within rest same in
          let there_all = all_there parent phasers (stands.steady parent within) parents in
          let nobody : unarrived_of (flat_at phasers parent) ≡ 0 = there_all.1 in
          let tally = (stands.tallied parent within (ap origin.stray same ∙ clean) there_all.0).unarrived in
          let none : children is_awaited parent phasers ≡ 0 = omega (arith, tally, nobody) in
          let own = line_own phasers parent sound within in
          let under = under-parent (phaser_at phasers id).line id parent own.0 (child.2 ∙ ap (λ (l : List ℕ). id ∷ l) own.1) in
          not_awaited (flat_at phasers id) (none-passes is_awaited parent phasers id none there under)
    ]

-- so everybody who registered directly has arrived
pub all_arrived : (phasers : List PhaserState) (origin : Origin) (root : ℕ) → IsForest phasers → AreTallied phasers origin
    → origin.stray root ≡ false → (flat_at phasers root).turned ≡ true → HaveAllArrived origin root phasers
all_arrived phasers origin root sound stands clean turned id there tree = grind (arith, all_turned, all_there)
