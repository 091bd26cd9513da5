-- A registration of parties with one phaser of a forest.
use Rattle.std.specs.Prelude.{ℕ, pos, ◌+◌, ◌==◌, nat_lt, Bool, if◌then◌else◌, List, [], ◌∷◌}
use Rattle.std.specs.List.{list_any}
use Rattle.packed_phaser.specs.Flat.{Flat, Registration, Joins, JoinsLate, MustWait, Overfull, register, is_empty, view_of}
use Rattle.tier_tree.specs.declared.registered.Registered.{Registered}
use Rattle.tier_tree.specs.Forest.{PhaserState, phaser_at, flat_at, with_flat}
use Rattle.tier_tree.specs.declared.registered.Registered.TheVariants as registered

-- this many parties join the phaser of this number
pub record Join : Type 0 where
  pub id : ℕ
  pub count : ℕ

-- what a registration changes: the first phaser of the line gets the parties and, as long as the last one is empty, the
-- next gets one party
abbrev pub joins_along : List ℕ → ℕ → List PhaserState → List Join
joins_along [] count phasers = []
joins_along (id ∷ above) count phasers =
    record { id = id; count = count } ∷ (if is_empty (flat_at phasers id) then joins_along above 1 phasers else [])

-- no parties change no phaser
abbrev pub joins : ℕ → ℕ → List PhaserState → List Join
joins id count phasers = if count == 0 then [] else joins_along (phaser_at phasers id).line count phasers

-- there would be more than 65535 parties
abbrev pub is_overfull : List PhaserState → Join → Bool
is_overfull phasers join = nat_lt 65535 ((flat_at phasers join.id).parties + join.count)

-- the phase of the phaser is about to end
abbrev pub is_turned : List PhaserState → Join → Bool
is_turned phasers join = (flat_at phasers join.id).turned

-- the result of a registration; the first case that holds
abbrev pub registration : ℕ → ℕ → List PhaserState → Registered
registration id count phasers =
    let flat = flat_at phasers id in
    if flat.ended then registered.Dead (view_of flat)
    else (if list_any (is_overfull phasers) (joins id count phasers) then registered.TooMany
    else (if list_any (is_turned phasers) (joins id count phasers) then registered.Held
    else registered.At (pos flat.phase)))

-- the phaser with those who registered with it as with a phaser without tiers
abbrev pub flat_by : Registration → Flat → Flat
flat_by (Joins flat phase) before = flat
flat_by (JoinsLate view) before = before
flat_by MustWait before = before
flat_by Overfull before = before

-- the forest after these joins
abbrev pub joined : List Join → List PhaserState → List PhaserState
joined [] phasers = phasers
joined (join ∷ others) phasers =
    let after = joined others phasers in
    with_flat after join.id (flat_by (register join.count (flat_at after join.id)) (flat_at after join.id))

-- the forest by what the registration came to: only a counted one changes it
abbrev pub registered_by : Registered → List Join → List PhaserState → List PhaserState
registered_by (registered.At phase) all phasers = joined all phasers
registered_by (registered.Dead view) all phasers = phasers
registered_by registered.Held all phasers = phasers
registered_by registered.TooMany all phasers = phasers

-- the forest after a registration
abbrev pub after_registration : ℕ → ℕ → List PhaserState → List PhaserState
after_registration id count phasers = registered_by (registration id count phasers) (joins id count phasers) phasers
