-- What is kept so that the last choices can be undone.
use Rattle.std.specs.Prelude.{ℕ, List, ◌∷◌, take, drop, Option}
use Rattle.machine_scene.specs.Undo.{Note}

-- the notes of the last choices, the newest first, and how many of them there may be
pub record Kept : Type 0 where
  pub notes : List (Option Note)
  pub most : ℕ

-- with the note of one more choice; the oldest is dropped if there are more than there may be
abbrev pub with_note : Option Note → Kept → Kept
with_note note kept = record kept { notes = take kept.most (note ∷ kept.notes) }

-- all but the newest
abbrev pub without_newest : Kept → Kept
without_newest kept = record kept { notes = drop 1 kept.notes }
