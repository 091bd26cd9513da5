-- What `explain` writes.
use Rattle.std.specs.Prelude.{◌≡◌, ◌⊎◌, ℕ, List, [], Option}
use Rattle.std.specs.{Borrow.Bor, Io.KnownBytes.Appends}
use Rattle.refusals.specs.{declared.entry.Entry.Entry, declared.question.Question.Question, Entry.text_of, Question.AsksFor}
use Rattle.refusals.specs.{declared.word.WordEntry.WordEntry, Word.AreItsWord, Word.word_text}

-- the entry of the one word of the language that the words are was written whole
abbrev pub HasForm : List (List ℕ) → Option (List ℕ) → Option (List ℕ) → Type 0
HasForm words before after = (entry : WordEntry) × AreItsWord entry words × Appends before after (word_text entry)

-- the entry that the words ask for was written whole, with the place in the words
abbrev pub HasAnswer : List (Bor (List Entry)) → List (List ℕ) → Option (List ℕ) → Option (List ℕ) → Type 0
HasAnswer tables words before after =
    (q : Question) × AsksFor tables words q × Appends before after (text_of q.entry q.place)

-- without words what can be asked; and otherwise what is said about their word, or the entry that they ask for
abbrev pub HasExplained : List ℕ → List (Bor (List Entry)) → List (List ℕ) → Option (List ℕ) → Option (List ℕ) → Type 0
HasExplained questions tables words before after =
    ((words ≡ []) × Appends before after questions) ⊎ (HasForm words before after ⊎ HasAnswer tables words before after)
