-- Which words are saved before a call, and how they undo the call.
use Rattle.std.specs.Prelude.{◌≡◌, ℕ, List, [], ◌∷◌, map, slice_set}
use Rattle.tier_tree.specs.declared.saved.KeptWord.{KeptWord}
use Rattle.tier_tree.specs.Stored.{Stored, IsStored, ChangedAt, stored_at}

-- what is saved of one phaser: its number, its word, and how many phases of its tree have ended
pub record Kept : Type 0 where
  pub id : ℕ
  pub word : ℕ
  pub ends : ℕ

-- what a saved word and count say
abbrev pub kept_by : KeptWord → Kept
kept_by kept = record { id = kept.id; word = kept.word; ends = kept.ended_phases }

-- what is saved of the phaser of this number
abbrev pub kept_at : List Stored → ℕ → Kept
kept_at forest id =
    record { id = id; word = (stored_at forest id).word; ends = (stored_at forest id).ends }

-- what is saved of a forest before a call at this phaser: everything from it up to its root
abbrev pub saved_of : ℕ → List Stored → List Kept
saved_of id forest = map (kept_at forest) (stored_at forest id).line

-- this was saved of a forest before calls at one phaser that led from there to this forest; no promise depends on it
pub record IsSavedOf (saved : List Kept) (after : List Stored) : Type 0 where
  pub before : List Stored
  pub id : ℕ
  pub forest : IsStored before
  pub kept : saved ≡ saved_of id before
  pub changed : ChangedAt id before after

-- the forest with what was saved of one phaser
abbrev pub with_kept : Kept → List Stored → List Stored
with_kept kept forest =
    slice_set forest kept.id (record (stored_at forest kept.id) { word = kept.word; ends = kept.ends })

-- the forest with everything that was saved
abbrev pub restored : List Kept → List Stored → List Stored
restored [] forest = forest
restored (kept ∷ others) forest = restored others (with_kept kept forest)
