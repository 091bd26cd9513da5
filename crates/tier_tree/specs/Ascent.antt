-- The words that a look along a line found. Nobody has to believe it.
use Rattle.std.specs.Prelude.{◌≡◌, ℕ, false, List, [], ◌∷◌}
use Rattle.packed_phaser.specs.{Flat.Flat, Word.record_of}
use Rattle.tier_tree.specs.Forest.{PhaserState, with_flat}

-- the word is of this phaser's phase, and isn't terminated
abbrev pub IsOfPhase : Flat → ℕ → Type 0
IsOfPhase flat word = ((record_of word).phase ≡ flat.phase) × ((record_of word).ended ≡ false)

-- the forest with these words of the line's phasers
abbrev pub written : List ℕ → List ℕ → List PhaserState → List PhaserState
written [] words phasers = phasers
written (id ∷ line) [] phasers = phasers
written (id ∷ line) (word ∷ words) phasers = with_flat (written line words phasers) id (record_of word)
