-- Counts that no call returns: how many parties are registered directly with each phaser, and how many of these are still to
-- arrive.
use Rattle.std.specs.Prelude.{◌≡◌, ◌≢◌, ℕ, ◌+◌, ◌-◌, ◌<◌, ◌≤◌, ◌==◌, ◌&&◌, not, Bool, true, false, if◌then◌else◌, List, [], ◌∷◌, length}
use Rattle.packed_phaser.specs.Flat.{Flat, is_empty, unarrived_of}
use Rattle.tier_tree.specs.declared.{registered.Registered.Registered, arrived.Arrived.Arrived}
use Rattle.tier_tree.specs.Forest.{PhaserState, flat_at, root_at}
use Rattle.tier_tree.specs.declared.registered.Registered.TheVariants as registered
use Rattle.tier_tree.specs.declared.arrived.Arrived.TheVariants as arrived

-- by the number of a phaser, how many parties were declared or registered with it directly and haven't left, and how many
-- of them are still to arrive; by the number of a root, whether somebody arrived directly who wasn't registered so
pub record Origin : Type 0 where
  pub registered : ℕ → ℕ
  pub unarrived : ℕ → ℕ
  pub stray : ℕ → Bool

-- whether the line is that of a child of this phaser
abbrev pub is_under : ℕ → List ℕ → Bool
is_under parent [] = false
is_under parent (own ∷ []) = false
is_under parent (own ∷ next ∷ above) = next == parent

-- how many children of this phaser pass the test
abbrev pub children : (Flat → Bool) → ℕ → List PhaserState → ℕ
children test parent [] = 0
children test parent (phaser ∷ phasers) =
    (if is_under parent phaser.line && test phaser.flat then 1 else 0) + children test parent phasers

-- a child that is registered with its parent
abbrev pub has_joined : Flat → Bool
has_joined flat = not (is_empty flat)

-- a child that its parent waits for
abbrev pub is_awaited : Flat → Bool
is_awaited flat = not (is_empty flat) && not flat.turned

-- a phaser counts those who registered with it directly, and its children
pub record IsTallied (origin : Origin) (id : ℕ) (phasers : List PhaserState) : Type 0 where
  pub registered : (flat_at phasers id).parties ≡ origin.registered id + children has_joined id phasers
  pub unarrived : unarrived_of (flat_at phasers id) ≡ origin.unarrived id + children is_awaited id phasers
  pub within : origin.unarrived id ≤ origin.registered id

-- a phaser is turned only when all have arrived, a child then has parties, and it is terminated with its root
pub record IsSteady (id : ℕ) (phasers : List PhaserState) : Type 0 where
  pub arrived : (flat_at phasers id).arrived ≤ (flat_at phasers id).parties
  pub turned : (flat_at phasers id).turned ≡ true
      → ((flat_at phasers id).ended ≡ false) × ((flat_at phasers id).arrived ≡ (flat_at phasers id).parties)
  pub child : (flat_at phasers id).turned ≡ true → root_at phasers id ≢ id → 0 < (flat_at phasers id).parties
  pub tree : (flat_at phasers id).ended ≡ (flat_at phasers (root_at phasers id)).ended

-- a forest with these registrations and arrivals so far: in each tree that isn't terminated and had no stray arrival, each
-- phaser counts those who registered with it directly, and its children
pub record AreTallied (phasers : List PhaserState) (origin : Origin) : Type 0 where
  pub steady : (id : ℕ) → id < length phasers → IsSteady id phasers
  pub tallied : (id : ℕ) → id < length phasers → origin.stray (root_at phasers id) ≡ false
      → (flat_at phasers id).ended ≡ false → IsTallied origin id phasers

-- everybody who registered directly with a phaser of this root's tree has arrived or left
abbrev pub HaveAllArrived : Origin → ℕ → List PhaserState → Type 0
HaveAllArrived origin root phasers =
    (id : ℕ) → id < length phasers → root_at phasers id ≡ root → origin.unarrived id ≡ 0

-- a party arrives directly: one fewer is still to arrive, and a party that leaves is no longer registered; if nobody was to
-- arrive, the tree has had a stray arrival
abbrev pub arrived_at : ℕ → ℕ → Bool → Origin → Origin
arrived_at id root leave origin =
    if origin.unarrived id == 0 then record origin { stray = λ n. if n == root then true else origin.stray n }
    else record origin {
      unarrived = λ n. if n == id then origin.unarrived n - 1 else origin.unarrived n;
      registered = λ n. if (n == id) && leave then origin.registered n - 1 else origin.registered n;
    }

-- only an arrival that isn't refused counts
abbrev pub origin_after_arrival : Arrived → ℕ → ℕ → Bool → Origin → Origin
origin_after_arrival (arrived.At phase) id root leave origin = arrived_at id root leave origin
origin_after_arrival (arrived.Turning top phase parties) id root leave origin = arrived_at id root leave origin
origin_after_arrival (arrived.Dead view) id root leave origin = origin
origin_after_arrival arrived.NotThere id root leave origin = origin

-- a phase of the tree has ended: all who are registered directly are to arrive again
abbrev pub origin_after_phase_end : ℕ → List PhaserState → Origin → Origin
origin_after_phase_end root phasers origin = record origin {
  unarrived = λ n. if root_at phasers n == root then origin.registered n else origin.unarrived n;
}

-- parties are declared or registered directly
abbrev pub registered_at : ℕ → ℕ → Origin → Origin
registered_at id count origin = record origin {
  registered = λ n. if n == id then origin.registered n + count else origin.registered n;
  unarrived = λ n. if n == id then origin.unarrived n + count else origin.unarrived n;
}

-- only a registration that isn't refused counts
abbrev pub origin_after_registration : Registered → ℕ → ℕ → Origin → Origin
origin_after_registration (registered.At phase) id count origin = registered_at id count origin
origin_after_registration (registered.Dead view) id count origin = origin
origin_after_registration registered.Held id count origin = origin
origin_after_registration registered.TooMany id count origin = origin

-- a phaser is declared with these parties; if it is a root, its tree has had no stray arrival
abbrev pub declared_at : (id : ℕ) → (count : ℕ) → (is_top : Bool) → Origin → Origin
declared_at id count is_top origin = record {
  registered = λ n. if n == id then count else origin.registered n;
  unarrived = λ n. if n == id then count else origin.unarrived n;
  stray = λ n. if is_top && (n == id) then false else origin.stray n;
}

-- if one forest stands for some counts, the other stands for what is made of them here
abbrev pub Carries : (Origin → Origin) → List PhaserState → List PhaserState → Type 0
Carries next before after = (origin : Origin) → AreTallied before origin → AreTallied after (next origin)
