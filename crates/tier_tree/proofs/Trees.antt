-- What the calls keep of the trees that a caller carries.
use Rattle.std.proofs.Common.{inl, inr, ◌≡◌, ◌≢◌, ◌∙◌, ℕ, zero, suc, ◌+◌, ◌<◌, ◌≤◌, ◌==◌, Bool, true, false, List, [], ◌∷◌, length, map, ap, refl, sym, arith, if◌then◌else◌, ◌||◌, slice_set}
use Rattle.std.proofs.lemmas.{Bool.cases_eq, Bool.cases_lt, List.get_or_past}
use Rattle.packed_phaser.specs.Flat.{Flat, Joins, JoinsLate, MustWait, Overfull, Arrival, arrive, register, advance}
use Rattle.tier_tree.specs.{declared.arrived.Arrived.Arrived, declared.id.PhaserId.PhaserId, Sound.places_of}
use Rattle.tier_tree.specs.Forest.{PhaserState, no_phaser, phaser_at, flat_at, root_at}
use Rattle.tier_tree.specs.Registration.{Join, joined, flat_by, registration, after_registration}
use Rattle.tier_tree.specs.Arrival.{Arrives, Climbed, is_top, climbed_by, climbed, arrival}
use Rattle.tier_tree.specs.PhaseEnd.{most_ends, after_phase_end, after_force, in_step}
use Rattle.tier_tree.specs.{Answer.IfTurning, Answer.KeepsPlaces, Answer.MakesPending, Trees.is_pending, Trees.AreTrees}
use Rattle.tier_tree.specs.Origin.{Origin, AreTallied, origin_after_registration, origin_after_arrival, origin_after_phase_end}
use Rattle.tier_tree.specs.declared.arrived.Arrived.TheVariants as arrived
use Rattle.tier_tree.proofs.Lines.{root_within, registration-places, arrival-places, turn-places, force-places, forest_kept, length-places, place_at-places}
use Rattle.tier_tree.proofs.{Balance.flat-other, Stands.same-is, Stands.stands_after_arrival, Joined.stands_registered}
use Rattle.tier_tree.proofs.Turned.{turn_change, force_change, stands_after_phase_end, stands_after_force}
use Rattle.tier_tree.proofs.Kept.{keeps_places, registration-ends, arrival-ends, force-ends}
use Rattle.tier_tree.proofs.Turning.{IsFull, turning}

-- the pending phase end of this root can come: what `finish_turn` asks
pub record CanEnd (root : ℕ) (phasers : List PhaserState) : Type 0 where
  pub there : root < length phasers
  pub top : root_at phasers root ≡ root
  pub turned : (flat_at phasers root).turned ≡ true
  pub live : (flat_at phasers root).ended ≡ false
  pub ends : (phaser_at phasers root).ends < most_ends

-- this root is pending, if it was
abbrev pub StaysPending : ℕ → List PhaserState → List PhaserState → Type 0
StaysPending root before after =
    is_pending (flat_at before root) ≡ true → is_pending (flat_at after root) ≡ true

-- a call that ends no phase: the trees are the same, and each root that was pending is
pub record KeepsTrees (most : ℕ) (before : List PhaserState) (after : List PhaserState) : Type 0 where
  pub places : KeepsPlaces before after
  pub many : length after ≡ length before
  pub trees : AreTrees most after
  pub pending : (root : ℕ) → root_at before root ≡ root → StaysPending root before after

-- the end of a phase of this root: the same, but for this root, and one more phase has ended
pub record EndsPhase (root : ℕ) (most : ℕ) (before : List PhaserState) (after : List PhaserState) : Type 0 where
  pub places : KeepsPlaces before after
  pub many : length after ≡ length before
  pub trees : AreTrees (most + 1) after
  pub pending : (other : ℕ) → other ≢ root → root_at before other ≡ other → StaysPending other before after

-- of a turned phaser all have arrived
abbrev pub AreFull : List PhaserState → Type 0
AreFull phasers = (id : ℕ) → IsFull (flat_at phasers id)

-- whoever isn't there is no pending phaser
pending_there : (phasers : List PhaserState) (id : ℕ) → is_pending (flat_at phasers id) ≡ true → id < length phasers
pending_there phasers id is = grind (arith, cases_lt, get_or_past)

pub full_of : (phasers : List PhaserState) (origin : Origin) → AreTallied phasers origin → AreFull phasers
full_of phasers origin stands id turned = grind (arith, cases_lt, get_or_past)

-- what is true of each phaser and another in its place
put : (P : PhaserState → PhaserState → Type 0) → ((x : PhaserState) → P x x) → (phasers : List PhaserState) (i : ℕ) (new : PhaserState)
    → P (phaser_at phasers i) new → (q : ℕ) → P (phaser_at phasers q) (phaser_at (slice_set phasers i new) q)
put P same [] i new is q = same no_phaser
put P same (x ∷ phasers) zero new is zero = is
put P same (x ∷ phasers) zero new is (suc q) = same (phaser_at phasers q)
put P same (x ∷ phasers) (suc i) new is zero = same x
put P same (x ∷ phasers) (suc i) new is (suc q) = put P same phasers i new is q

-- a registration makes no phaser pending, and leaves none so
join_pending : (ended none over turned : Bool) (f more : Flat) (view phase : _) → more.turned ≡ f.turned → more.ended ≡ f.ended
    → is_pending (flat_by (if ended then JoinsLate view else (if none then Joins f phase
    else (if over then Overfull else (if turned then MustWait
    else Joins more phase)))) f) ≡ is_pending f
join_pending true none over turned f more view phase t e = refl
join_pending false _ _ turned f more view phase t e = grind arith

joined_pending : (all : List Join) (phasers : List PhaserState) (q : ℕ) → is_pending (flat_at (joined all phasers) q) ≡ is_pending (flat_at phasers q)
joined_pending [] phasers q = refl
joined_pending (join ∷ others) phasers q =
    let after = joined others phasers in
    let f = flat_at after join.id in
    put (λ (x y : PhaserState). is_pending y.flat ≡ is_pending x.flat) (λ x. refl) after join.id
    (record (phaser_at after join.id) { flat = flat_by (register join.count f) f })
    (join_pending f.ended (join.count == 0) _ f.turned f (record f { parties = f.parties + join.count }) _ _ refl refl) q
    ∙ joined_pending others phasers q

pub registration-pending : (id count : ℕ) (phasers : List PhaserState) (q : ℕ)
    → is_pending (flat_at (after_registration id count phasers) q) ≡ is_pending (flat_at phasers q)
registration-pending id count phasers q = grind (arith, joined_pending)

-- a pending phaser refuses an arrival
refuses : (leave : Bool) (f : Flat) (turned ended : Bool) → f.turned ≡ turned → f.ended ≡ ended → (turned || ended) ≡ true
    → IsFull f → (i : ℕ) (top : Bool) (onward : Bool → Climbed) (phasers : List PhaserState)
    → (climbed_by (arrive leave f) i top onward phasers).phasers ≡ phasers
refuses leave f turned true t e some full i top onward phasers = rw e refl
refuses leave f true false t e some full i top onward phasers = grind (arith, same-is)
refuses leave f false false t e some full i top onward phasers = absurd (cc (some))

other_pending : (a : Arrival) (i : ℕ) (top : Bool) (onward : Bool → Climbed) (phasers : List PhaserState) (r : ℕ) → r ≢ i
    → is_pending (flat_at phasers r) ≡ true → ((leaves : Bool) → is_pending (flat_at (onward leaves).phasers r) ≡ true)
    → is_pending (flat_at (climbed_by a i top onward phasers).phasers r) ≡ true
other_pending a i top onward phasers r apart is rest = grind (arith, flat-other)

-- whoever is pending stays so while others arrive
climbed_pending : (line : List ℕ) (leave : Bool) (phasers : List PhaserState) (r : ℕ) → AreFull phasers
    → is_pending (flat_at phasers r) ≡ true → is_pending (flat_at (climbed line leave phasers).phasers r) ≡ true
climbed_pending [] leave phasers r full is = is
climbed_pending (i ∷ above) leave phasers r full is =
    let f = flat_at phasers i in
    let onward : Bool → Climbed = λ leaves. climbed above leaves phasers in
    elim (cases_eq r i) as (λ _. is_pending (flat_at (climbed_by (arrive leave f) i (is_top above) onward phasers).phasers r) ≡ true) [
      | inl same ↦
          let some : is_pending f ≡ true = ap (λ (n : ℕ). is_pending (flat_at phasers n)) (sym same) ∙ is in
          ap (λ (ps : List PhaserState). is_pending (flat_at ps r))
          (refuses leave f f.turned f.ended refl refl some (full i) i (is_top above) onward phasers) ∙ is
      | inr apart ↦
          other_pending (arrive leave f) i (is_top above) onward phasers r apart is
          (λ leaves. climbed_pending above leaves phasers r full is)
    ]

pub arrival_pending : (id : ℕ) (leave : Bool) (phasers : List PhaserState) (r : ℕ) → AreFull phasers
    → StaysPending r phasers (arrival id leave phasers).phasers
arrival_pending id leave phasers r full is = grind (arith, climbed_pending)

pub force_pending : (id : ℕ) (phasers : List PhaserState) (r : ℕ) → StaysPending r phasers (after_force id phasers)
force_pending id phasers r is =
    let there = pending_there phasers r is in
    let change = force_change id phasers in
    grind (arith, cases_eq)

pub turn_pending : (root : ℕ) (ends : Bool) (phasers : List PhaserState) → CanEnd root phasers → (other : ℕ) → other ≢ root
    → root_at phasers other ≡ other → StaysPending other phasers (after_phase_end root ends phasers)
turn_pending root ends phasers can other apart top is =
    ap is_pending ((turn_change root ends phasers can.there can.top).apart other (pending_there phasers other is) (λ same. apart (sym top ∙ same))) ∙ is

-- as many phasers are there as before
many_same : (phasers after : List PhaserState) → places_of after ≡ places_of phasers → length after ≡ length phasers
many_same phasers after same = sym (length-places after) ∙ ap length same ∙ length-places phasers

-- each phaser keeps its policy
pub policy_same : (before after : List PhaserState) → KeepsPlaces before after → (id : ℕ) → (phaser_at after id).policy ≡ (phaser_at before id).policy
policy_same before after keeps id = grind (arith, place_at-places)

-- one more phase end may be counted
pub more_ends : (most : ℕ) (phasers : List PhaserState) → AreTrees most phasers → AreTrees (most + 1) phasers
more_ends most phasers trees = grind arith

pub more_trees : (most : ℕ) (before after : List PhaserState) → KeepsTrees most before after → KeepsTrees (most + 1) before after
more_trees most before after keeps = grind arith

-- nothing is done
pub trees_same : (most : ℕ) (phasers : List PhaserState) → AreTrees most phasers → KeepsTrees most phasers phasers
trees_same most phasers trees = grind arith

-- a registration
pub trees_registered : (most id count : ℕ) (phasers : List PhaserState) → AreTrees most phasers → id < length phasers
    → KeepsTrees most phasers (after_registration id count phasers)
trees_registered most id count phasers trees there =
    let after = after_registration id count phasers in
    let same = registration-places id count phasers in
    let answer = registration id count phasers in
    record {
      places = keeps_places phasers after same;
      many = many_same phasers after same;
      trees = record {
        forest = forest_kept phasers after same trees.forest;
        stands = (
          origin_after_registration answer id count trees.stands.0,
          stands_registered id count phasers after trees.stands.0 answer trees.forest there refl refl trees.stands.1,
        );
        ends = λ n. (let few = trees.ends n in let e = registration-ends id count phasers n in omega (arith, few, e));
      };
      pending = λ root top is. registration-pending id count phasers root ∙ is;
    }

-- an arrival
pub trees_arrived : (most id : ℕ) (leave : Bool) (phasers : List PhaserState) → AreTrees most phasers → id < length phasers
    → KeepsTrees most phasers (arrival id leave phasers).phasers
trees_arrived most id leave phasers trees there =
    let all : Arrives = arrival id leave phasers in
    let same = arrival-places id leave phasers in
    record {
      places = keeps_places phasers all.phasers same;
      many = many_same phasers all.phasers same;
      trees = record {
        forest = forest_kept phasers all.phasers same trees.forest;
        stands = (
          origin_after_arrival all.answer id (root_at phasers id) leave trees.stands.0,
          stands_after_arrival phasers trees.stands.0 id leave all trees.forest there refl trees.stands.1,
        );
        ends = λ n. (let few = trees.ends n in let e = arrival-ends id leave phasers n in omega (arith, few, e));
      };
      pending = λ root top. arrival_pending id leave phasers root (full_of phasers trees.stands.0 trees.stands.1);
    }

-- a termination
pub trees_forced : (most id : ℕ) (phasers : List PhaserState) → AreTrees most phasers → id < length phasers
    → KeepsTrees most phasers (after_force id phasers)
trees_forced most id phasers trees there = grind (arith, force-places, keeps_places, many_same, forest_kept, stands_after_force, force-ends, force_pending)

-- the count of phase ends grows by one at the root
in_step-ends : (root phase : ℕ) (ended : Bool) (phasers : List PhaserState) (n : ℕ)
    → (phaser_at (map (in_step root phase ended) phasers) n).ends ≡ (phaser_at phasers n).ends
in_step-ends root phase ended (x ∷ phasers) (suc n) = in_step-ends root phase ended phasers n
in_step-ends root phase ended phasers n = grind arith

pub turn-ends : (root most : ℕ) (ends : Bool) (phasers : List PhaserState) → ((id : ℕ) → (phaser_at phasers id).ends ≤ most)
    → (id : ℕ) → (phaser_at (after_phase_end root ends phasers) id).ends ≤ most + 1
turn-ends root most ends phasers few id =
    let before = phaser_at phasers root in
    let flat = advance ends before.flat in
    let moved = map (in_step root flat.phase flat.ended) phasers in
    let others : (phaser_at moved id).ends ≤ most + 1 =
    (let kept = in_step-ends root flat.phase flat.ended phasers id in let f = few id in omega (arith, kept, f)) in
    let own : before.ends + 1 ≤ most + 1 = (let f = few root in omega (arith, f)) in
    put (λ (x y : PhaserState). x.ends ≤ most + 1 → y.ends ≤ most + 1) (λ x h. h) moved root
    (record before { flat = flat; ends = before.ends + 1 }) (λ h. own) id others

-- a phase end
pub trees_turned : (most root : ℕ) (ends : Bool) (phasers : List PhaserState) → AreTrees most phasers → CanEnd root phasers
    → EndsPhase root most phasers (after_phase_end root ends phasers)
trees_turned most root ends phasers trees can =
    let after = after_phase_end root ends phasers in
    let same = turn-places root ends phasers in
    record {
      places = keeps_places phasers after same;
      many = many_same phasers after same;
      trees = record {
        forest = forest_kept phasers after same trees.forest;
        stands = (
          origin_after_phase_end root phasers trees.stands.0,
          stands_after_phase_end root ends phasers after trees.stands.0 trees.forest can.there can.top can.live refl trees.stands.1,
        );
        ends = turn-ends root most ends phasers trees.ends;
      };
      pending = turn_pending root ends phasers can;
    }

pub if_turning : (answer : Arrived) (P : PhaserId → Type 0) → IfTurning answer P
    → (root : PhaserId) (phase : _) (parties : ℕ) → answer ≡ arrived.Turning root phase parties → P root
if_turning answer P told root phase parties is = grind arith

turning_gives : (answer : Arrived) (P Q : PhaserId → Type 0) → ((root : PhaserId) → P root → Q root) → IfTurning answer P → IfTurning answer Q
turning_gives answer P Q gives told = grind arith

-- who turns a root found it not pending, and its phase can be ended
pub arrived_can_turn : (most id : ℕ) (leave : Bool) (phasers : List PhaserState) → AreTrees most phasers → most < 2147483647 → id < length phasers
    → IfTurning (arrival id leave phasers).answer (λ root. (root.0 ≡ root_at phasers id) × (is_pending (flat_at phasers root.0) ≡ false)
    × CanEnd root.0 (arrival id leave phasers).phasers)
arrived_can_turn most id leave phasers trees few there =
    let all : Arrives = arrival id leave phasers in
    let many = many_same phasers all.phasers (arrival-places id leave phasers) in
    turning_gives all.answer
    (λ root. (root.0 < length phasers) × (root.0 ≡ root_at phasers id) × MakesPending root.0 phasers all.phasers)
    (λ root. (root.0 ≡ root_at phasers id) × (is_pending (flat_at phasers root.0) ≡ false) × CanEnd root.0 all.phasers)
    (λ root told. (
      told.1,
      ap (λ (t : Bool). t || (flat_at phasers root.0).ended) told.2.unturned_before ∙ told.2.live_before,
      record {
        there = (let within = told.0 in omega (arith, many, within));
        top = told.2.top;
        turned = told.2.turned;
        live = told.2.live;
        ends = (let kept = arrival-ends id leave phasers root.0 in let below = trees.ends root.0 in omega (arith, kept, below, few));
      },
    ))
    (turning id (length phasers) leave phasers all.phasers all.answer trees.forest there (root_within phasers id trees.forest there)
    (full_of phasers trees.stands.0 trees.stands.1 (root_at phasers id)) refl)

-- an arrival that is the last of its tree, and the end of the phase with it
pub trees_turned_at_once : (most id : ℕ) (leave ends : Bool) (phasers : List PhaserState) (root : PhaserId) (phase : _) (parties : ℕ)
    → AreTrees most phasers → most < 2147483647 → id < length phasers → (arrival id leave phasers).answer ≡ arrived.Turning root phase parties
    → KeepsTrees (most + 1) phasers (after_phase_end root.0 ends (arrival id leave phasers).phasers)
trees_turned_at_once most id leave ends phasers root phase parties trees few there is =
    let all : Arrives = arrival id leave phasers in
    let first = trees_arrived most id leave phasers trees there in
    let told = if_turning all.answer (λ own. (own.0 ≡ root_at phasers id) × (is_pending (flat_at phasers own.0) ≡ false) × CanEnd own.0 all.phasers)
    (arrived_can_turn most id leave phasers trees few there) root phase parties is in
    let second = trees_turned most root.0 ends all.phasers first.trees told.2 in
    grind (arith, keeps_places, cases_eq)
