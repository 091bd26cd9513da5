-- A root has no party where all who registered with its tree have left, and only there.
use Rattle.std.proofs.Common.{inl, inr, ◌≡◌, ◌∙◌, ℕ, zero, suc, ◌+◌, ◌<◌, ◌≤◌, ◌==◌, Bool, true, false, List, [], ◌∷◌, length, ap, refl, sym, arith, if◌then◌else◌, not}
use Rattle.std.proofs.lemmas.Bool.{cases_eq, Decides.nat_tests}
use Rattle.packed_phaser.specs.Flat.{Flat}
use Rattle.tier_tree.specs.{Answer.KeepsEnds, Forest.PhaserState, Forest.phaser_at, Forest.flat_at, Forest.root_at}
use Rattle.tier_tree.specs.{PhaseEnd.after_phase_end, Sound.IsForest}
use Rattle.tier_tree.specs.Origin.{Origin, is_under, children, has_joined, AreTallied}
use Rattle.tier_tree.proofs.{Safe.linked, Safe.line_own, Safe.root-parent, Stands.same-is, Trees.CanEnd}
use Rattle.tier_tree.proofs.Turned.{child-tree, root-root, turn_change}
use Rattle.thread_machine.specs.DirectCounts.{has_ended_phase}
use Rattle.headline.specs.PhaseEnds.{HaveAllLeft}
use Rattle.headline.proofs.{Prompt.no_children, TreeCalls.follow_keeps, TreeCalls.others_ended}

pub none_passes : (test : Flat → Bool) (parent : ℕ) (phasers : List PhaserState) (id : ℕ) → children test parent phasers ≡ 0
    → id < length phasers → is_under parent (phaser_at phasers id).line ≡ true → test (flat_at phasers id) ≡ false
none_passes test parent [] id none there under = absurd (omega (arith, there))
none_passes test parent (p ∷ phasers) zero none there under = grind arith
none_passes test parent (p ∷ phasers) (suc id) none there under =
    none_passes test parent phasers id (omega (arith, none)) (omega (arith, there)) under

-- a child that isn't terminated has joined where it has parties, and only there
empty_by : (ended turned : Bool) (parties : ℕ) → ended ≡ false
    → not (if ended then false else (if turned then false else parties == 0)) ≡ false → parties ≡ 0
empty_by true turned parties live out = absurd (cc live)
empty_by false true parties live out = absurd (cc out)
empty_by false false parties live out = grind (arith, nat_tests)

out_by : (ended turned : Bool) (parties : ℕ) → ended ≡ false → (turned ≡ true → 0 < parties) → parties ≡ 0
    → not (if ended then false else (if turned then false else parties == 0)) ≡ false
out_by true turned parties live some none = absurd (cc live)
out_by false true parties live some none = (let one = some refl in absurd (omega (arith, one, none)))
out_by false false parties live some none = ap (λ n. not (n == 0)) none

-- a tree without strays that isn't terminated
pub record IsOpen (phasers : List PhaserState) (counts : Origin) (root : ℕ) : Type 0 where
  pub forest : IsForest phasers
  pub stands : AreTallied phasers counts
  pub clean : counts.stray root ≡ false
  pub live : (flat_at phasers root).ended ≡ false

pub live_at : (phasers : List PhaserState) (counts : Origin) (root id : ℕ) → IsOpen phasers counts root → id < length phasers
    → root_at phasers id ≡ root → (flat_at phasers id).ended ≡ false
live_at phasers counts root id fair there tree = grind arith

none_left : (n : ℕ) (phasers : List PhaserState) (counts : Origin) (root : ℕ) → IsOpen phasers counts root → HaveAllLeft counts root phasers
    → (id : ℕ) → length phasers ≤ id + n → id < length phasers → root_at phasers id ≡ root → (flat_at phasers id).parties ≡ 0
none_left zero phasers counts root fair all id most there tree = absurd (omega (arith, most, there))
none_left (suc n) phasers counts root fair all id most there tree =
    let least = (root-root phasers (phaser_at phasers id).line id fair.forest there refl).1 in
    let none : children has_joined id phasers ≡ 0 = no_children has_joined id phasers (λ k here under.
    let up = child-tree phasers k id fair.forest here under in
    let below = up.0 in
    let inside : root_at phasers k ≡ root = up.1 ∙ tree in
    let f = flat_at phasers k in
    out_by f.ended f.turned f.parties (live_at phasers counts root k fair here inside)
    (λ turned. (fair.stands.steady k here).child turned (λ top. absurd (omega (arith, least, below, tree, inside, top))))
    (none_left n phasers counts root fair all k (omega (arith, most, below)) here inside)) in
    let tally = (fair.stands.tallied id there (ap counts.stray tree ∙ fair.clean) (live_at phasers counts root id fair there tree)).registered in
    let own = all id there tree in
    omega (arith, none, tally, own)

none_below : (line : List ℕ) (phasers : List PhaserState) (counts : Origin) (root : ℕ) → IsOpen phasers counts root
    → (flat_at phasers root).parties ≡ 0 → (id : ℕ) → id < length phasers → (phaser_at phasers id).line ≡ line → root_at phasers id ≡ root
    → (flat_at phasers id).parties ≡ 0
none_below [] phasers counts root fair none id there is tree =
    let own = line_own phasers id fair.forest there in absurd (cc (is, own.1))
none_below (first ∷ above) phasers counts root fair none id there is tree =
    elim (linked phasers id fair.forest there) as (λ _. (flat_at phasers id).parties ≡ 0) [
      | inl top ↦ ap (λ n. (flat_at phasers n).parties) (own_root phasers id top ∙ tree) ∙ none
      | inr child ↦
          let q = child.0 in
          let below = child.1 in
          let within : q < length phasers = omega (arith, below, there) in
          let same : root_at phasers q ≡ root = sym (root-parent phasers id q fair.forest within child.2) ∙ tree in
          let own = line_own phasers q fair.forest within in
          let parents = none_below above phasers counts root fair none q within (rest_same id first (phaser_at phasers q).line above (sym child.2 ∙ is)) same in
          let tally = (fair.stands.tallied q within (ap counts.stray same ∙ fair.clean) (live_at phasers counts root q fair within same)).registered in
          let few : children has_joined q phasers ≡ 0 = omega (arith, tally, parents) in
          let under : is_under q (phaser_at phasers id).line ≡ true =
          ap (is_under q) (child.2 ∙ ap (λ line. id ∷ line) own.1) ∙ same-is q in
          let f = flat_at phasers id in
          empty_by f.ended f.turned f.parties (live_at phasers counts root id fair there tree)
          (none_passes has_joined q phasers id few there under)
    ]
  where
    own_root : (phasers : List PhaserState) (id : ℕ) → (phaser_at phasers id).line ≡ id ∷ [] → id ≡ root_at phasers id
    own_root phasers id top = rw top refl

    rest_same : (a b : ℕ) (xs ys : List ℕ) → a ∷ xs ≡ b ∷ ys → xs ≡ ys
    rest_same a b xs ys same = cc same

-- as a phase of this root ends
pub ended_left : (root : ℕ) (ends : Bool) (before mid : List PhaserState) (at : Origin) → CanEnd root mid → IsForest mid → AreTallied mid at
    → length mid ≡ length before → ((id : ℕ) → root_at mid id ≡ root_at before id) → KeepsEnds before mid → (r : ℕ)
    → let after = after_phase_end root ends mid in
    has_ended_phase r before after ≡ true → at.stray r ≡ false
    → ((flat_at after r).parties ≡ 0 → HaveAllLeft at r before) × (HaveAllLeft at r before → (flat_at after r).parties ≡ 0)
ended_left root ends before mid at can forest stands many roots kept r =
    let after = after_phase_end root ends mid in
    elim (cases_eq r root) as (λ _. has_ended_phase r before after ≡ true → at.stray r ≡ false
    → ((flat_at after r).parties ≡ 0 → HaveAllLeft at r before) × (HaveAllLeft at r before → (flat_at after r).parties ≡ 0)) [
      | inr apart ↦ λ ended clean. (let no = others_ended root ends before mid kept r apart in absurd (cc (no, ended)))
      | inl is ↦ λ ended clean.
          let own = (turn_change root ends mid can.there can.top).inside root can.there can.top in
          let left : (flat_at after r).parties ≡ (flat_at mid root).parties =
          ap (λ n. (flat_at after n).parties) is ∙ ap (λ (f : Flat). f.parties) own.1 ∙ (follow_keeps own.0 ends (flat_at mid root)).1 in
          let fair : IsOpen mid at root = record { forest = forest; stands = stands; clean = sym (ap at.stray is) ∙ clean; live = can.live } in (
            λ none id there tree.
                let inside : id < length mid = omega (arith, many, there) in
                let same : root_at mid id ≡ root = roots id ∙ tree ∙ is in
                let mine = none_below (phaser_at mid id).line mid at root fair (sym left ∙ none) id inside refl same in
                let tally = (stands.tallied id inside (ap at.stray (same ∙ sym is) ∙ clean) (live_at mid at root id fair inside same)).registered in
                omega (arith, mine, tally),
            λ all. left
                ∙ none_left (length mid) mid at root fair (λ id there tree. all id (omega (arith, many, there)) (sym (roots id) ∙ tree ∙ sym is))
                root (omega arith) can.there can.top,
          )
    ]
