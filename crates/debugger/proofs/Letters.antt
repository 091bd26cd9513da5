-- Words with a letter.
use Rattle.std.proofs.Common.{◌≡◌, ◌<◌, ◌==◌, ℕ, true, List, [], ◌∷◌, length, arith}
use Rattle.debugger.specs.Command.{letter_of}

-- a word that is a letter is not empty
pub some_letter : (word : List ℕ) → (letter_of word == 103) ≡ true → 0 < length word
some_letter [] is = absurd (cc is)
some_letter (byte ∷ rest) is = omega arith
