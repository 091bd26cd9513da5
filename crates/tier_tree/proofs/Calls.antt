-- What a call promises of the whole forest, from what it makes of the slice of phasers.
use Rattle.std.proofs.Common.{◌≡◌, ◌∙◌, ℕ, suc, ◌<◌, Bool, false, List, [], ◌∷◌, ◌++◌, length, map, take, drop, ap, refl, sym, subst, arith, slice_set, Option, take_at, length-set}
use Rattle.std.proofs.lemmas.List.{get_or_append_left}
use Rattle.tier_tree.specs.{declared.registered.Registered.Registered, declared.arrived.Arrived.Arrived, Call.IsCall}
use Rattle.tier_tree.specs.{Forest.PhaserState, Forest.phaser_at, Forest.flat_at, Forest.root_at, declared.id.PhaserId.PhaserId}
use Rattle.tier_tree.specs.{Registration.registration, Registration.after_registration, Arrival.Arrives, Arrival.arrival}
use Rattle.tier_tree.specs.{PhaseEnd.after_phase_end, PhaseEnd.after_force, Sound.places_of, Sound.Place, Sound.place_of}
use Rattle.tier_tree.specs.Stored.{Stored, stored_at, shown, phasers_of, place_in, IsStored, ChangedAt, ChangedOnly}
use Rattle.tier_tree.specs.Answer.{IfTurning, MakesPending, KeepsPlaces, KeepsEnds, HaveOnePhase, AddsPlace}
use Rattle.tier_tree.specs.Origin.{Origin, AreTallied, Carries, origin_after_registration, origin_after_arrival, origin_after_phase_end}
use Rattle.tier_tree.specs.{Declaration.after_declaration, Undo.Kept, Undo.with_kept, Undo.restored}
use Rattle.packed_phaser.specs.declared.policy.Policy.{Policy}
use Rattle.tier_tree.proofs.Kept.{joined-ends, push-ends, keeps_places, registration-ends, arrival-ends, force-ends}
use Rattle.tier_tree.proofs.Lines.{joined-places, place_at-places, registration-places, arrival-places, turn-places, force-places}
use Rattle.tier_tree.proofs.{Stands.stands_after_arrival, Joined.stands_registered, Changed.only_root, Changed.there_shown}
use Rattle.tier_tree.proofs.{Turned.stands_after_phase_end, Turned.stands_after_force, Turning.IsFull, Turning.turning}
use Rattle.tier_tree.proofs.Shown.{top_at, length-shown, flat_shown, root_shown, top_there, top-top, present-phase, present-ended}

-- a slice of all phasers, written back
pub written_back : (P : List Stored → List Stored → Type 0) (items given now written : List Stored) (n : ℕ) → given ≡ items → items ≡ now
    → length given ≡ n → length written ≡ length given → P given written → P now (take n (written ++ drop (length written) items))
written_back P items given now written n value view len many p = grind (arith, take_at)

-- a call that ends no phase
pub record Keeps (id : ℕ) (next : Origin → Origin) (before after : List Stored) : Type 0 where
  pub call : IsCall id next before after
  pub ends : KeepsEnds (phasers_of before) (phasers_of after)

there_given : (given now : List Stored) (id : ℕ) → given ≡ now → id < length now → id < length (phasers_of given)
there_given given now id is there = there_shown given id (subst (λ (ss : List Stored). id < length ss) (sym is) there)

pub registered : (items given now written : List Stored) (id count : ℕ) (answer : Registered) → given ≡ items → items ≡ now → IsStored items
    → id < length now → answer ≡ registration id count (phasers_of given) → phasers_of written ≡ after_registration id count (phasers_of given)
    → ChangedAt id given written → Keeps id (origin_after_registration answer id count) given written
registered items given now written id count answer value view stored there is forest only = record {
  call = record {
    only = only;
    places = keeps_places (phasers_of given) (phasers_of written) (ap places_of forest ∙ registration-places id count (phasers_of given));
    origin = λ origin stands. stands_registered id count (phasers_of given) (phasers_of written) origin answer
        (subst IsStored (sym value) stored).places (there_given given now id (value ∙ view) there) is forest stands;
  };
  ends = λ n. ap (λ (ps : List PhaserState). (phaser_at ps n).ends) forest ∙ registration-ends id count (phasers_of given) n;
}

pub arrived : (items given now written : List Stored) (id : ℕ) (leave : Bool) (answer : Arrived) → given ≡ items → items ≡ now → IsStored items
    → id < length now → record { phasers = phasers_of written; answer = answer } ≡ arrival id leave (phasers_of given)
    → ChangedAt id given written → Keeps id (origin_after_arrival answer id (root_at (phasers_of given) id) leave) given written
arrived items given now written id leave answer value view stored there is only = record {
  call = record {
    only = only;
    places = keeps_places (phasers_of given) (phasers_of written)
        (ap (λ (a : Arrives). places_of a.phasers) is ∙ arrival-places id leave (phasers_of given));
    origin = λ origin stands. stands_after_arrival (phasers_of given) origin id leave (record { phasers = phasers_of written; answer = answer })
        (subst IsStored (sym value) stored).places (there_given given now id (value ∙ view) there) is stands;
  };
  ends = λ n. ap (λ (a : Arrives). (phaser_at a.phasers n).ends) is ∙ arrival-ends id leave (phasers_of given) n;
}

pub forced : (items given now written : List Stored) (id : ℕ) → given ≡ items → items ≡ now → IsStored items
    → id < length now → phasers_of written ≡ after_force id (phasers_of given)
    → ChangedAt id given written → Keeps id (λ origin. origin) given written
forced items given now written id value view stored there forest only = record {
  call = record {
    only = only;
    places = keeps_places (phasers_of given) (phasers_of written) (ap places_of forest ∙ force-places id (phasers_of given));
    origin = λ origin stands. stands_after_force id (phasers_of given) (phasers_of written) origin
        (subst IsStored (sym value) stored).places (there_given given now id (value ∙ view) there) forest stands;
  };
  ends = λ n. ap (λ (ps : List PhaserState). (phaser_at ps n).ends) forest ∙ force-ends id (phasers_of given) n;
}

turned_places : (given written : List Stored) (root : ℕ) (ends : Bool) → phasers_of written ≡ after_phase_end root ends (phasers_of given)
    → KeepsPlaces (phasers_of given) (phasers_of written)
turned_places given written root ends forest =
    keeps_places (phasers_of given) (phasers_of written) (ap places_of forest ∙ turn-places root ends (phasers_of given))

turned_origin : (items given now written : List Stored) (root : ℕ) (ends : Bool) → given ≡ items → items ≡ now → IsStored items
    → root < length now → root_at (phasers_of now) root ≡ root → (flat_at (phasers_of now) root).ended ≡ false
    → phasers_of written ≡ after_phase_end root ends (phasers_of given)
    → Carries (origin_after_phase_end root (phasers_of given)) (phasers_of given) (phasers_of written)
turned_origin items given now written root ends value view stored there top live forest =
    let same = value ∙ view in
    λ origin stands. stands_after_phase_end root ends (phasers_of given) (phasers_of written) origin (subst IsStored (sym value) stored).places
    (there_given given now root same there) (subst (λ (ss : List Stored). root_at (phasers_of ss) root ≡ root) (sym same) top)
    (subst (λ (ss : List Stored). (flat_at (phasers_of ss) root).ended ≡ false) (sym same) live) forest stands

-- a phase end writes the root's word alone
pub turned : (items given now written : List Stored) (root : ℕ) (ends : Bool) → given ≡ items → items ≡ now → IsStored items
    → root < length now → root_at (phasers_of now) root ≡ root → (flat_at (phasers_of now) root).ended ≡ false
    → phasers_of written ≡ after_phase_end root ends (phasers_of given) → ChangedOnly (root ∷ []) given written
    → IsCall root (origin_after_phase_end root (phasers_of given)) given written
turned items given now written root ends value view stored there top live forest only =
    let same = value ∙ view in
    let within = subst (λ (ss : List Stored). root < length ss) (sym same) there in
    record {
      only = only_root given written root root (subst IsStored (sym value) stored) within
          (sym (subst (λ (ss : List Stored). root_at (phasers_of ss) root ≡ root) (sym same) top) ∙ root_shown given root within) only;
      places = turned_places given written root ends forest;
      origin = turned_origin items given now written root ends value view stored there top live forest;
    }

-- of a turned root all have arrived: its word says so
pub all_full : (forest : List Stored) (id : ℕ) → id < length forest → IsFull (flat_at (phasers_of forest) id)
all_full forest id there = grind (arith, flat_shown, arrived)

pub arrived_turning : (items given now written : List Stored) (id : ℕ) (leave : Bool) (answer : Arrived) → given ≡ items → items ≡ now → IsStored items
    → id < length now → length written ≡ length given → record { phasers = phasers_of written; answer = answer } ≡ arrival id leave (phasers_of given)
    → IfTurning answer (λ root. (root.0 < length written) × (root.0 ≡ root_at (phasers_of given) id) × MakesPending root.0 (phasers_of given) (phasers_of written))
arrived_turning items given now written id leave answer value view stored there many is =
    let sound : IsStored given = subst IsStored (sym value) stored in
    let within : id < length given = subst (λ (ss : List Stored). id < length ss) (sym (value ∙ view)) there in
    let below = top_there given id sound within in
    let top = root_shown given id within in
    let small : root_at (phasers_of given) id < length given = omega (arith, below, top) in
    turning id (length written) leave (phasers_of given) (phasers_of written) answer sound.places (there_shown given id within)
    (omega (arith, small, many)) (all_full given (root_at (phasers_of given) id) small) is

-- all phasers of a tree are in its root's phase, and terminated with it
pub one_phase : (forest : List Stored) → IsStored forest → HaveOnePhase (phasers_of forest)
one_phase forest stored id there = grind (arith, length-shown, root_shown, top_there, top_at, flat_shown, top-top, present-phase, present-ended)

-- a declaration
pub declared_ends : (parent : Option PhaserId) (parties : ℕ) (policy : Policy) (phase : ℕ) (before after : List PhaserState)
    → after ≡ after_declaration parent parties policy phase before → KeepsEnds before after
declared_ends parent parties policy phase before after is n = grind (arith, joined-ends, push-ends)

pub declared_places : (parent : Option PhaserId) (parties : ℕ) (policy : Policy) (phase : ℕ) (before after : List PhaserState)
    → after ≡ after_declaration parent parties policy phase before → AddsPlace before after
declared_places parent parties policy phase before after is id there = grind (arith, place_at-places, joined-places, get_or_append_left)

-- an empty forest stands for any counts
pub stands_empty : (origin : Origin) → AreTallied [] origin
stands_empty origin = grind arith

-- what was kept, put back
pub restored-many : (saved : List Kept) (forest : List Stored) → length (restored saved forest) ≡ length forest
restored-many [] forest = refl
restored-many (kept ∷ others) forest = restored-many others (with_kept kept forest) ∙ length-set forest kept.id _

-- in the same places
set-places : (forest : List Stored) (id word ends : ℕ)
    → map place_in (slice_set forest id (record (stored_at forest id) { word = word; ends = ends })) ≡ map place_in forest
set-places (s ∷ forest) (suc id) word ends = ap (λ (places : List Place). place_in s ∷ places) (set-places forest id word ends)
set-places forest id word ends = grind arith

restored-places : (saved : List Kept) (forest : List Stored) → map place_in (restored saved forest) ≡ map place_in forest
restored-places [] forest = refl
restored-places (kept ∷ others) forest = grind (arith, set-places, restored-places others (with_kept kept forest))

shown-places : (all forest : List Stored) → map place_of (map (shown all) forest) ≡ map place_in forest
shown-places all [] = refl
shown-places all (s ∷ forest) = ap (λ (places : List Place). place_in s ∷ places) (shown-places all forest)

pub written_places : (saved : List Kept) (given written : List Stored) → written ≡ restored saved given
    → KeepsPlaces (phasers_of given) (phasers_of written)
written_places saved given written is =
    keeps_places (phasers_of given) (phasers_of written)
    (shown-places written written ∙ ap (map place_in) is ∙ restored-places saved given ∙ sym (shown-places given given))

pub written_many : (saved : List Kept) (given written : List Stored) → written ≡ restored saved given → length written ≡ length given
written_many saved given written is = ap length is ∙ restored-many saved given
