-- The calls change no line.
use Rattle.std.proofs.Common.{inl, inr, ◌≡◌, ℕ, suc, ◌+◌, ◌<◌, Bool, true, List, [], ◌∷◌, ◌++◌, map, get_or, length, ap, refl, sym, subst, arith, Option, ◌⊎◌, slice_set, All}
use Rattle.std.proofs.lemmas.List.{length-map, length_push, get_or_append_left, get_or_push, map-append}
use Rattle.std.proofs.lemmas.{List.Elements.All-weaker, List.Elements.All-cons, List.Elements.All-nil, Bool.Decides.nat_tests}
use Rattle.std.proofs.lemmas.Bool.{cases_lt}
use Rattle.packed_phaser.specs.{declared.policy.Policy.Policy, Flat.Flat, Flat.Arrival, Flat.arrive}
use Rattle.tier_tree.specs.{declared.id.PhaserId.PhaserId, Declaration.has_parent, Declaration.declared}
use Rattle.tier_tree.specs.{declared.climb.Climb.Climb, Registration.Join, Registration.joined, Registration.after_registration}
use Rattle.tier_tree.specs.Forest.{PhaserState, no_phaser, phaser_at, flat_at, root_at, with_flat}
use Rattle.tier_tree.specs.Arrival.{Climbed, is_top, climbed_by, climbed, arrival}
use Rattle.tier_tree.specs.PhaseEnd.{in_step, terminated, after_phase_end, after_force}
use Rattle.tier_tree.specs.Sound.{Place, place_of, places_of, IsForest, IsForestOf, IsLine, line_at}

-- a phaser in the place of the one that stands there
set-places : (phasers : List PhaserState) (id : ℕ) (flat : Flat) (ends : ℕ)
    → places_of (slice_set phasers id (record (phaser_at phasers id) { flat = flat; ends = ends })) ≡ places_of phasers
set-places (p ∷ phasers) (suc id) flat ends = ap (λ ps. place_of p ∷ ps) (set-places phasers id flat ends)
set-places phasers id flat ends = grind arith

pub with_flat-places : (phasers : List PhaserState) (id : ℕ) (flat : Flat) → places_of (with_flat phasers id flat) ≡ places_of phasers
with_flat-places phasers id flat = set-places phasers id flat (phaser_at phasers id).ends

pub joined-places : (all : List Join) (phasers : List PhaserState) → places_of (joined all phasers) ≡ places_of phasers
joined-places [] phasers = refl
joined-places (join ∷ others) phasers = grind (arith, with_flat-places, joined-places others phasers)

pub registration-places : (id count : ℕ) (phasers : List PhaserState) → places_of (after_registration id count phasers) ≡ places_of phasers
registration-places id count phasers = grind (arith, joined-places)

climbed_by-places : (a : Arrival) (id : ℕ) (top : Bool) (above : Bool → Climbed) (phasers : List PhaserState)
    → ((leave : Bool) → places_of (above leave).phasers ≡ places_of phasers)
    → places_of (climbed_by a id top above phasers).phasers ≡ places_of phasers
climbed_by-places a id top above phasers kept = grind (arith, with_flat-places)

pub climbed-places : (line : List ℕ) (leave : Bool) (phasers : List PhaserState)
    → places_of (climbed line leave phasers).phasers ≡ places_of phasers
climbed-places [] leave phasers = refl
climbed-places (id ∷ above) leave phasers =
    climbed_by-places (arrive leave (flat_at phasers id)) id (is_top above) (λ leaves. climbed above leaves phasers) phasers
    (λ leaves. climbed-places above leaves phasers)

pub arrival-places : (id : ℕ) (leave : Bool) (phasers : List PhaserState) → places_of (arrival id leave phasers).phasers ≡ places_of phasers
arrival-places id leave phasers = grind (arith, climbed-places)

follow-places : (root phase : ℕ) (ended : Bool) (phasers : List PhaserState)
    → places_of (map (in_step root phase ended) phasers) ≡ places_of phasers
follow-places root phase ended [] = refl
follow-places root phase ended (p ∷ phasers) = grind (arith, follow-places root phase ended phasers)

pub terminated-places : (root : ℕ) (phasers : List PhaserState) → places_of (map (terminated root) phasers) ≡ places_of phasers
terminated-places root [] = refl
terminated-places root (p ∷ phasers) = grind (arith, terminated-places root phasers)

-- another phaser of the same place
put-places : (phasers : List PhaserState) (id : ℕ) (phaser : PhaserState) → place_of phaser ≡ place_of (phaser_at phasers id)
    → places_of (slice_set phasers id phaser) ≡ places_of phasers
put-places (p ∷ phasers) (suc id) phaser same = ap (λ ps. place_of p ∷ ps) (put-places phasers id phaser same)
put-places phasers id phaser same = grind arith

-- the place of the phaser at this number
pub place_at-places : (phasers : List PhaserState) (id : ℕ) → place_of (phaser_at phasers id) ≡ get_or (places_of phasers) id (place_of no_phaser)
place_at-places (p ∷ phasers) (suc id) = place_at-places phasers id
place_at-places phasers id = grind arith

pub turn-places : (root : ℕ) (ends : Bool) (phasers : List PhaserState) → places_of (after_phase_end root ends phasers) ≡ places_of phasers
turn-places root ends phasers = grind (arith, follow-places, put-places, place_at-places)

pub force-places : (id : ℕ) (phasers : List PhaserState) → places_of (after_force id phasers) ≡ places_of phasers
force-places id phasers = terminated-places (root_at phasers id) phasers

-- a forest whose phasers have kept their places is a forest
pub forest_kept : (phasers after : List PhaserState) → places_of after ≡ places_of phasers → IsForest phasers → IsForest after
forest_kept phasers after same sound = subst IsForestOf (sym same) sound

pub length-places : (phasers : List PhaserState) → length (places_of phasers) ≡ length phasers
length-places phasers = length-map phasers place_of

-- a phaser's line is within the forest
pub line_within : (phasers : List PhaserState) (id : ℕ) → IsForest phasers → id < length phasers
    → All (λ (above : ℕ). above < length phasers) (phaser_at phasers id).line
line_within phasers id sound there = grind (arith, length-places, place_at-places)

-- and so is its root
pub root_within : (phasers : List PhaserState) (id : ℕ) → IsForest phasers → id < length phasers → root_at phasers id < length phasers
root_within phasers id sound there = grind (arith, length-places, place_at-places)

pub climbed_same : (line : List ℕ) (leave : Bool) (phasers after : List PhaserState) (c : Climb)
    → record { phasers = after; climb = c } ≡ climbed line leave phasers → places_of after ≡ places_of phasers
climbed_same line leave phasers after c is = grind (arith, climbed-places)

-- a line stays one in a forest of one more phaser
line_more : (places : List Place) (more : Place) (id : ℕ) (line : List ℕ) → id < length places → IsLine places id line
    → IsLine (places ++ more ∷ []) id line
line_more places more id line there is = grind (arith, length_push, All-weaker, get_or_append_left)

-- the line of a new phaser
line_new : (places : List Place) (more : Place) (line : List ℕ) → IsForestOf places
    → (line ≡ length places ∷ []) ⊎ ((parent : ℕ) × (parent < length places) × (line ≡ length places ∷ line_at places parent))
    → IsLine (places ++ more ∷ []) (length places) line
line_new places more line sound given = grind (arith, length_push, All-cons, All-nil, All-weaker, get_or_append_left)

-- a forest of one more phaser
forest_more : (places : List Place) (more : Place) → length places < 64 → IsForestOf places
    → (more.line ≡ length places ∷ []) ⊎ ((parent : ℕ) × (parent < length places) × (more.line ≡ length places ∷ line_at places parent))
    → IsForestOf (places ++ more ∷ [])
forest_more places more few sound is =
    let longer : length (places ++ more ∷ []) ≡ length places + 1 = length_push places more in
    record {
      few = omega (arith, few, longer);
      lines = λ id there. elim (cases_lt id (length places)) as (λ _. IsLine (places ++ more ∷ []) id (line_at (places ++ more ∷ []) id)) [
        | inl below ↦ subst (λ (p : Place). IsLine (places ++ more ∷ []) id p.line)
            (sym (get_or_append_left places (more ∷ []) (place_of no_phaser) id below))
            (line_more places more id (line_at places id) below (sound.lines id below))
        | inr last ↦
            let same : id ≡ length places = omega (arith, there, longer, last) in
            subst (λ (n : ℕ). IsLine (places ++ more ∷ []) n (line_at (places ++ more ∷ []) n)) (sym same)
            (subst (λ (p : Place). IsLine (places ++ more ∷ []) (length places) p.line)
            (sym (get_or_push places more (place_of no_phaser) (length places) refl))
            (line_new places more more.line sound is))
      ];
    }

-- the forest with a new phaser at its end
pub forest_declared : (parent : Option PhaserId) (parties : ℕ) (policy : Policy) (phase : ℕ) (phasers : List PhaserState)
    → length phasers < 64 → has_parent parent phasers ≡ true → IsForest phasers
    → IsForest (phasers ++ declared parent parties policy phase phasers ∷ [])
forest_declared parent parties policy phase phasers few there sound = grind (arith, length-places, map-append, forest_more, nat_tests, place_at-places)
