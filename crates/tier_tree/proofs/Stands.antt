-- The calls keep the counts of who registered and arrived where.
use Rattle.std.proofs.Common.{inl, inr, ◌≡◌, ◌≢◌, ◌∙◌, ℕ, ℤ, ◌-◌, ◌<◌, ◌==◌, Bool, true, false, List, ◌∷◌, length, ap, refl, sym, subst, arith, if◌then◌else◌, ◌&&◌}
use Rattle.std.proofs.lemmas.Bool.{cases_eq, Decides.nat_tests}
use Rattle.tier_tree.specs.{declared.climb.Climb.Climb, Forest.PhaserState, Forest.phaser_at, Forest.flat_at, Forest.root_at}
use Rattle.tier_tree.specs.Arrival.{climbed, Arrives, arrival_by, arrival}
use Rattle.tier_tree.specs.Sound.{places_of, IsForest}
use Rattle.tier_tree.specs.Origin.{Origin, IsTallied, IsSteady, AreTallied, arrived_at, origin_after_arrival}
use Rattle.tier_tree.specs.declared.arrived.Arrived.TheVariants as arrived
use Rattle.tier_tree.proofs.{Lines.place_at-places, Lines.length-places, Lines.climbed-places, Safe.line_own, Safe.last_of}
use Rattle.tier_tree.proofs.Balance.{bit, IsOff, IsGood, Changes, AllGood, Succeeds, climb-changes}

-- roots depend on the places alone
pub root-same : (phasers after : List PhaserState) (id : ℕ) → places_of after ≡ places_of phasers → root_at after id ≡ root_at phasers id
root-same phasers after id same = grind (arith, last_of, place_at-places)

pub good_of : (phasers : List PhaserState) (origin : Origin) → AreTallied phasers origin → AllGood phasers
good_of phasers origin stands id there = grind arith

-- a change keeps each phaser steady
pub steady_after : (phasers after : List PhaserState) (origin : Origin) → IsForest phasers → AreTallied phasers origin
    → places_of after ≡ places_of phasers
    → ((id : ℕ) → (flat_at after id).ended ≡ (flat_at phasers id).ended)
    → ((id : ℕ) → IsGood (root_at phasers id) id (flat_at phasers id) → IsGood (root_at phasers id) id (flat_at after id))
    → (id : ℕ) → id < length after → IsSteady id after
steady_after phasers after origin sound stands same ended good id there = grind (arith, length-places, good_of, root-same)

pub same-is : (n : ℕ) → (n == n) ≡ true
same-is n = grind (arith, nat_tests)

pub other-is : (m n : ℕ) → m ≢ n → (m == n) ≡ false
other-is m n other = grind (arith, nat_tests, other)

-- a clean tree isn't the one that had the stray
clean_of : (a b : ℕ) (stray : Bool) → (if a == b then true else stray) ≡ false → (a ≢ b) × (stray ≡ false)
clean_of a b stray = grind (arith, nat_tests)

-- a tally is of two counts
pub tallied_as : (origin other : Origin) (id : ℕ) (phasers : List PhaserState) → other.registered id ≡ origin.registered id
    → other.unarrived id ≡ origin.unarrived id → IsTallied origin id phasers → IsTallied other id phasers
tallied_as origin other id phasers registered unarrived tally = grind arith

-- the counts of the phaser that the party arrived at
own_tallied : (leave : Bool) (phasers after : List PhaserState) (origin other : Origin) (id : ℕ) → IsOff id 0 (bit leave) 0 1 phasers after
    → IsTallied origin id phasers → 0 < origin.unarrived id
    → other.registered id ≡ (if leave then origin.registered id - 1 else origin.registered id)
    → other.unarrived id ≡ origin.unarrived id - 1 → IsTallied other id after
own_tallied true phasers after origin other id off tally some registered unarrived = grind arith
own_tallied false phasers after origin other id off tally some registered unarrived = grind arith

-- and of the others
others_tallied : (leave : Bool) (phasers after : List PhaserState) (origin : Origin) (id n : ℕ) → Changes id 0 (bit leave) 0 1 phasers after
    → n ≢ id → IsTallied origin n phasers → IsTallied origin n after
others_tallied leave phasers after origin id n changes other tally = grind arith

-- a counted arrival
stands_by : (stray : Bool) (phasers after : List PhaserState) (origin : Origin) (id : ℕ) (leave : Bool) → IsForest phasers → id < length phasers
    → AreTallied phasers origin → places_of after ≡ places_of phasers → Changes id 0 (bit leave) 0 1 phasers after
    → (origin.unarrived id == 0) ≡ stray → AreTallied after (if stray
    then record origin { stray = λ n. if n == root_at phasers id then true else origin.stray n }
    else record origin {
      unarrived = λ n. if n == id then origin.unarrived n - 1 else origin.unarrived n;
      registered = λ n. if (n == id) && leave then origin.registered n - 1 else origin.registered n;
    })
stands_by true phasers after origin id leave sound there stands same changes is =
    let many : length after ≡ length phasers = sym (length-places after) ∙ ap length same ∙ length-places phasers in
    let other : Origin = record origin { stray = λ n. if n == root_at phasers id then true else origin.stray n } in
    record {
      steady = steady_after phasers after origin sound stands same changes.ended changes.good;
      tallied = λ n here clean live.
          let root = root-same phasers after n same in
          let parts = clean_of (root_at after n) (root_at phasers id) (origin.stray (root_at after n)) clean in
          let apart : n ≢ id = λ is_own. parts.0 (root ∙ ap (root_at phasers) is_own) in
          tallied_as origin other n after refl refl
          (others_tallied leave phasers after origin id n changes apart
          (stands.tallied n (omega (arith, many, here)) (ap origin.stray (sym root) ∙ parts.1) (sym (changes.ended n) ∙ live)));
    }
stands_by false phasers after origin id leave sound there stands same changes is =
    let many : length after ≡ length phasers = sym (length-places after) ∙ ap length same ∙ length-places phasers in
    let other : Origin = record origin {
      unarrived = λ n. if n == id then origin.unarrived n - 1 else origin.unarrived n;
      registered = λ n. if (n == id) && leave then origin.registered n - 1 else origin.registered n;
    } in
    record {
      steady = steady_after phasers after origin sound stands same changes.ended changes.good;
      tallied = λ n here clean live.
          let root = root-same phasers after n same in
          let before = stands.tallied n (omega (arith, many, here)) (ap origin.stray (sym root) ∙ clean) (sym (changes.ended n) ∙ live) in
          elim (cases_eq n id) as (λ _. IsTallied other n after) [
            | inl own ↦ subst (λ (m : ℕ). IsTallied other m after) (sym own)
                (own_tallied leave phasers after origin other id changes.own (subst (λ (m : ℕ). IsTallied origin m phasers) own before)
                (grind (arith, nat_tests, is))
                (ap (λ (t : Bool). if t && leave then origin.registered id - 1 else origin.registered id) (same-is id))
                (ap (λ (t : Bool). if t then origin.unarrived id - 1 else origin.unarrived id) (same-is id)))
            | inr apart ↦ tallied_as origin other n after
                (ap (λ (t : Bool). if t && leave then origin.registered n - 1 else origin.registered n) (other-is n id apart))
                (ap (λ (t : Bool). if t then origin.unarrived n - 1 else origin.unarrived n) (other-is n id apart))
                (others_tallied leave phasers after origin id n changes apart before)
          ];
    }

by_climb : (c : Climb) (id : ℕ) (after phasers : List PhaserState) (origin : Origin) (leave : Bool) → AreTallied phasers origin
    → (Succeeds c → AreTallied after (arrived_at id (root_at phasers id) leave origin))
    → AreTallied (arrival_by c id after phasers).phasers
    (origin_after_arrival (arrival_by c id after phasers).answer id (root_at phasers id) leave origin)
by_climb c id after phasers origin leave stands through = grind arith

arrival_stands : (ended : Bool) (phasers : List PhaserState) (origin : Origin) (id : ℕ) (leave : Bool) (view : ℤ) → IsForest phasers → id < length phasers
    → AreTallied phasers origin
    → let all = climbed (phaser_at phasers id).line leave phasers in
    let r : Arrives = if ended then record { phasers = phasers; answer = arrived.Dead view } else arrival_by all.climb id all.phasers phasers in
    AreTallied r.phasers (origin_after_arrival r.answer id (root_at phasers id) leave origin)
arrival_stands true phasers origin id leave view sound there stands = stands
arrival_stands false phasers origin id leave view sound there stands =
    let own = line_own phasers id sound there in
    let good = good_of phasers origin stands in
    let Fits : List ℕ → Type 0 = λ (l : List ℕ). AreTallied (arrival_by (climbed l leave phasers).climb id (climbed l leave phasers).phasers phasers).phasers
    (origin_after_arrival (arrival_by (climbed l leave phasers).climb id (climbed l leave phasers).phasers phasers).answer id (root_at phasers id) leave origin) in
    subst Fits (sym own.1)
    (by_climb (climbed (id ∷ own.0) leave phasers).climb id (climbed (id ∷ own.0) leave phasers).phasers phasers origin leave stands
    (λ through. stands_by (origin.unarrived id == 0) phasers (climbed (id ∷ own.0) leave phasers).phasers origin id leave sound there stands
    (climbed-places (id ∷ own.0) leave phasers) (climb-changes own.0 id leave phasers sound there own.1 good through) refl))

-- an arrival
pub stands_after_arrival : (phasers : List PhaserState) (origin : Origin) (id : ℕ) (leave : Bool) (r : Arrives) → IsForest phasers
    → id < length phasers → r ≡ arrival id leave phasers → AreTallied phasers origin
    → AreTallied r.phasers (origin_after_arrival r.answer id (root_at phasers id) leave origin)
stands_after_arrival phasers origin id leave r sound there is stands = grind (arith, arrival_stands)
