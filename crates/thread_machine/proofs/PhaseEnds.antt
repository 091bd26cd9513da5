-- The direct counts beside a call of the trees, and as a phase ends.
use Rattle.std.proofs.Common.{◌≡◌, ◌∙◌, ℕ, zero, suc, ◌<◌, ◌==◌, Bool, true, false, List, [], ◌∷◌, length, map, ap, refl, sym, arith, if◌then◌else◌, get_or-set_same, get_or-set_other}
use Rattle.std.proofs.lemmas.{Bool.cases_eq, List.length-map}
use Rattle.packed_phaser.specs.Flat.{Flat}
use Rattle.tier_tree.specs.{Forest.PhaserState, Forest.phaser_at, Forest.root_of, Forest.root_at, Sound.IsForest}
use Rattle.tier_tree.specs.{PhaseEnd.follow, PhaseEnd.in_step, PhaseEnd.after_phase_end, Answer.KeepsPlaces, Answer.KeepsEnds}
use Rattle.tier_tree.specs.Origin.{Origin, AreTallied, HaveAllArrived, origin_after_phase_end}
use Rattle.tier_tree.proofs.{Trees.CanEnd, Stands.same-is, Stands.other-is, Safe.all_arrived, Turned.stands_after_phase_end}
use Rattle.thread_machine.specs.DirectCounts.{has_ended_phase, NumbersStay, set_back}
use Rattle.thread_machine.proofs.PhaseNumbers.{KeepsNumbers, turn-number}

-- the same counts
record AreSame (origin other : Origin) : Type 0 where
  pub registered : (n : ℕ) → other.registered n ≡ origin.registered n
  pub unarrived : (n : ℕ) → other.unarrived n ≡ origin.unarrived n
  pub stray : (n : ℕ) → other.stray n ≡ origin.stray n

stands_same : (phasers : List PhaserState) (origin other : Origin) → AreSame origin other → AreTallied phasers origin
    → AreTallied phasers other
stands_same phasers origin other same stands = grind arith

-- with these counts as they are where a phase ends, what follows stands for them, and no phase ends early
pub record Fares (before after : List PhaserState) (counted : Origin) : Type 0 where
  pub stands : AreTallied after (set_back before after counted)
  pub safe : (root : ℕ) → has_ended_phase root before after ≡ true → counted.stray root ≡ false
      → HaveAllArrived counted root before
  pub numbers : NumbersStay before after

-- no phase ends
pub fares_on : (before after : List PhaserState) (counted : Origin) → KeepsEnds before after → KeepsNumbers before after
    → AreTallied after counted → Fares before after counted
fares_on before after counted kept numbers stands = grind (arith, stands_same)

-- nothing happens
pub fares_same : (phasers : List PhaserState) (origin : Origin) → AreTallied phasers origin → Fares phasers phasers origin
fares_same phasers origin stands = fares_on phasers phasers origin (λ id. refl) (λ id. refl) stands

if-ends : (here : Bool) (x : PhaserState) (flat : Flat) → (if here then record x { flat = flat } else x).ends ≡ x.ends
if-ends true x flat = refl
if-ends false x flat = refl

in_step-ends : (root phase : ℕ) (ended : Bool) (phasers : List PhaserState) (n : ℕ)
    → (phaser_at (map (in_step root phase ended) phasers) n).ends ≡ (phaser_at phasers n).ends
in_step-ends root phase ended [] n = refl
in_step-ends root phase ended (x ∷ phasers) zero = if-ends (root_of x == root) x (follow phase ended x.flat)
in_step-ends root phase ended (x ∷ phasers) (suc n) = in_step-ends root phase ended phasers n

-- of the turned root, and of no other
turn_ended : (root : ℕ) (ends : Bool) (before mid : List PhaserState) → KeepsEnds before mid → root < length mid → (r : ℕ)
    → has_ended_phase r before (after_phase_end root ends mid) ≡ (r == root)
turn_ended root ends before mid kept within r = grind (arith, cases_eq, length-map, get_or-set_same, other-is, same-is, get_or-set_other, in_step-ends)

equal_of : (m n : ℕ) → (m == n) ≡ true → m ≡ n
equal_of m n is = grind (arith, cases_eq, other-is)

-- the phase of a turned root ends
pub fares_ended : (root : ℕ) (ends : Bool) (before mid : List PhaserState) (counted : Origin) → IsForest mid → CanEnd root mid
    → KeepsPlaces before mid → length mid ≡ length before → KeepsEnds before mid → KeepsNumbers before mid → AreTallied mid counted
    → Fares before (after_phase_end root ends mid) counted
fares_ended root ends before mid counted forest can places many kept numbers stands =
    let after = after_phase_end root ends mid in
    record {
      stands = stands_same after (origin_after_phase_end root mid counted) (set_back before after counted) (record {
        registered = λ n. refl;
        unarrived = λ n. ap (λ (b : Bool). if b then counted.registered n else counted.unarrived n)
            (turn_ended root ends before mid kept can.there (root_at before n) ∙ ap (λ (m : ℕ). m == root) (sym (places.roots n)));
        stray = λ n. refl;
      }) (stands_after_phase_end root ends mid after counted forest can.there can.top can.live refl stands);
      safe = λ r ended clean.
          let own : r ≡ root = equal_of r root (sym (turn_ended root ends before mid kept can.there r) ∙ ended) in
          let all = all_arrived mid counted root forest stands (sym (ap counted.stray own) ∙ clean) can.turned in
          λ id there tree. all id (omega (arith, many, there)) (places.roots id ∙ tree ∙ own);
      numbers = λ id none.
          turn-number root ends mid id can.top
          (ap (λ (n : ℕ). n == root) (places.roots id)
          ∙ sym (turn_ended root ends before mid kept can.there (root_at before id)) ∙ none)
          ∙ numbers id;
    }
