-- What no call changes of a phaser, and what is true of every forest.
use Rattle.std.specs.Prelude.{◌≡◌, ℕ, ◌-◌, ◌<◌, ◌≤◌, ◌⊎◌, List, [], ◌∷◌, length, map, slice_index_or, All}
use Rattle.packed_phaser.specs.declared.policy.Policy.{Policy}
use Rattle.tier_tree.specs.Forest.{PhaserState, no_phaser}

-- what no call changes of a phaser
pub record Place : Type 0 where
  pub line : List ℕ
  pub policy : Policy

abbrev pub place_of : PhaserState → Place
place_of phaser = record { line = phaser.line; policy = phaser.policy }

abbrev pub places_of : List PhaserState → List Place
places_of phasers = map place_of phasers

-- the line of the phaser of this number
abbrev pub line_at : List Place → ℕ → List ℕ
line_at places id = (slice_index_or places id (place_of no_phaser)).line

-- a phaser's line is its own number and then its parent's line, which was declared before it; a root's line is only its own
-- number
abbrev pub IsLinked : List Place → ℕ → List ℕ → Type 0
IsLinked places id line =
    (line ≡ id ∷ []) ⊎ ((parent : ℕ) × (parent < id) × (line ≡ id ∷ line_at places parent))

-- a line leads from a phaser of the forest up to a root
pub record IsLine (places : List Place) (id : ℕ) (line : List ℕ) : Type 0 where
  pub within : All (λ (above : ℕ). above < length places) line
  pub root : slice_index_or line (length line - 1) 0 < length places
  pub linked : IsLinked places id line

-- a forest has at most 64 phasers, and their lines lead up to roots
pub record IsForestOf (places : List Place) : Type 0 where
  pub few : length places ≤ 64
  pub lines : (id : ℕ) → id < length places → IsLine places id (line_at places id)

abbrev pub IsForest : List PhaserState → Type 0
IsForest phasers = IsForestOf (places_of phasers)
