-- Trees of phasers in which no last arrival is forgotten: where all parties of a phaser have arrived its phase is about to end.
use Rattle.std.proofs.Common.{◌≡◌, ◌∙◌, ℕ, zero, suc, ◌+◌, ◌<◌, ◌≤◌, Bool, true, false, List, [], ◌∷◌, length, ap, refl, arith, if◌then◌else◌, ◌&&◌, not, slice_set}
use Rattle.std.proofs.lemmas.{Bool.cases_eq, Bool.cases_lt, Bool.Decides.nat_tests, List.get_or_past}
use Rattle.packed_phaser.specs.Flat.{Flat, Arrival, Counts, Turns, ComesLate, IsUnregistered, arrive, is_empty, unarrived_of}
use Rattle.tier_tree.specs.{declared.registered.Registered.Registered, Sound.IsForest}
use Rattle.tier_tree.specs.Forest.{PhaserState, phaser_at, flat_at, root_at}
use Rattle.tier_tree.specs.Registration.{Join, joined, registered_by}
use Rattle.tier_tree.specs.Arrival.{Climbed, is_top, climbed_by, climbed, arrival}
use Rattle.tier_tree.specs.Origin.{Origin, is_under, children, is_awaited, AreTallied, HaveAllArrived}
use Rattle.tier_tree.proofs.{Lines.length-places, Turned.TreeChange, Turned.child-tree}

-- no more parties have arrived than there are; and where all have, the phase is about to end
abbrev pub IsPrompt : Flat → Type 0
IsPrompt f = (f.arrived ≤ f.parties) × (f.ended ≡ false → 0 < f.parties → f.arrived ≡ f.parties → f.turned ≡ true)

abbrev pub ArePrompt : List PhaserState → Type 0
ArePrompt phasers = (q : ℕ) → IsPrompt (flat_at phasers q)

put : (phasers : List PhaserState) (i : ℕ) (new : PhaserState) → IsPrompt new.flat → ArePrompt phasers → ArePrompt (slice_set phasers i new)
put [] i new is all q = all q
put (x ∷ phasers) zero new is all zero = is
put (x ∷ phasers) zero new is all (suc q) = all (suc q)
put (x ∷ phasers) (suc i) new is all zero = all zero
put (x ∷ phasers) (suc i) new is all (suc q) = put phasers i new is (λ n. all (suc n)) q

-- a registration
joined_prompt : (all : List Join) (phasers : List PhaserState) → ArePrompt phasers → ArePrompt (joined all phasers)
joined_prompt [] phasers prompt = prompt
joined_prompt (join ∷ others) phasers prompt = grind (arith, put, joined_prompt others phasers prompt)

pub registration_prompt : (r : Registered) (all : List Join) (phasers : List PhaserState) → ArePrompt phasers
    → ArePrompt (registered_by r all phasers)
registration_prompt r all phasers prompt = grind (arith, joined_prompt)

-- an arrival at one phaser: one that isn't the last leaves somebody
abbrev pub Lands : Arrival → Type 0
Lands (Counts g) = IsPrompt g × (g.arrived < g.parties)
Lands (Turns g) = IsPrompt g
Lands (ComesLate view) = Unit {0}
Lands IsUnregistered = Unit {0}

pub arrive_lands : (leave : Bool) (f : Flat) → IsPrompt f → Lands (arrive leave f)
arrive_lands leave f prompt = grind (arith, nat_tests)

climbed_by_prompt : (a : Arrival) (i : ℕ) (top : Bool) (onward : Bool → Climbed) (phasers : List PhaserState) → Lands a → ArePrompt phasers
    → ((leaves : Bool) → ArePrompt (onward leaves).phasers) → ArePrompt (climbed_by a i top onward phasers).phasers
climbed_by_prompt a i top onward phasers lands prompt up = grind (arith, put)

climbed_prompt : (line : List ℕ) (leave : Bool) (phasers : List PhaserState) → ArePrompt phasers → ArePrompt (climbed line leave phasers).phasers
climbed_prompt [] leave phasers prompt = prompt
climbed_prompt (i ∷ above) leave phasers prompt =
    climbed_by_prompt (arrive leave (flat_at phasers i)) i (is_top above) (λ leaves. climbed above leaves phasers) phasers
    (arrive_lands leave (flat_at phasers i) (prompt i)) prompt (λ leaves. climbed_prompt above leaves phasers prompt)

pub arrival_prompt : (id : ℕ) (leave : Bool) (phasers : List PhaserState) → ArePrompt phasers → ArePrompt (arrival id leave phasers).phasers
arrival_prompt id leave phasers prompt = grind (arith, climbed_prompt)

-- the end of a phase, or a termination
pub change_prompt : (root : ℕ) (ends : Bool) (before after : List PhaserState) → TreeChange root ends before after → ArePrompt before
    → ArePrompt after
change_prompt root ends before after change prompt q = grind (arith, length-places, cases_lt, cases_eq, get_or_past)

-- where everybody who registered with a tree has arrived, each phaser has all its parties
pub no_children : (test : Flat → Bool) (parent : ℕ) (phasers : List PhaserState)
    → ((k : ℕ) → k < length phasers → is_under parent (phaser_at phasers k).line ≡ true → test (flat_at phasers k) ≡ false)
    → children test parent phasers ≡ 0
no_children test parent [] none = refl
no_children test parent (p ∷ phasers) none =
    let others = no_children test parent phasers (λ k there. none (suc k) (omega (arith, there))) in
    let first = one (is_under parent p.line) (test p.flat) (none 0 (omega arith)) in
    omega (arith, first, others)
  where
    one : (under pass : Bool) → (under ≡ true → pass ≡ false) → let n : ℕ = (if under && pass then 1 else 0) in n ≡ 0
    one true true none = absurd (cc (none refl))
    one true false none = refl
    one false pass none = refl

not_awaited : (f : Flat) (empty turned : Bool) → is_empty f ≡ empty → f.turned ≡ turned → IsPrompt f → f.ended ≡ false
    → unarrived_of f ≡ 0 → (not empty && not turned) ≡ false
not_awaited f true turned e t prompt live none = refl
not_awaited f false true e t prompt live none = refl
not_awaited f false false e t (few, rest) live none = grind (arith, nat_tests)

pub all_come : (n : ℕ) (phasers : List PhaserState) (origin : Origin) (root : ℕ) → IsForest phasers → AreTallied phasers origin
    → ArePrompt phasers → origin.stray root ≡ false → (flat_at phasers root).ended ≡ false → HaveAllArrived origin root phasers
    → (id : ℕ) → length phasers ≤ id + n → id < length phasers → root_at phasers id ≡ root → unarrived_of (flat_at phasers id) ≡ 0
all_come zero phasers origin root forest stands prompt clean live all id most there tree = absurd (omega (arith, most, there))
all_come (suc n) phasers origin root forest stands prompt clean live all id most there tree =
    let awaited : children is_awaited id phasers ≡ 0 = no_children is_awaited id phasers (λ k here under.
    let up = child-tree phasers k id forest here under in
    let below = up.0 in
    let inside : root_at phasers k ≡ root = up.1 ∙ tree in
    not_awaited (flat_at phasers k) (is_empty (flat_at phasers k)) (flat_at phasers k).turned refl refl (prompt k)
    ((stands.steady k here).tree ∙ ap (λ r. (flat_at phasers r).ended) inside ∙ live)
    (all_come n phasers origin root forest stands prompt clean live all k (omega (arith, most, below)) here inside)) in
    let tally = (stands.tallied id there (ap origin.stray tree ∙ clean)
    ((stands.steady id there).tree ∙ ap (λ r. (flat_at phasers r).ended) tree ∙ live)).unarrived in
    let own = all id there tree in
    omega (arith, awaited, tally, own)
