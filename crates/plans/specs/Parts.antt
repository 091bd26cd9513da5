-- How words are stored. It carries the proof alone: no public contract names it, and nobody has to believe it.
use Rattle.std.specs.Prelude.{◌≡◌, ℕ, if◌then◌else◌, Bool, true, false, List, [], ◌∷◌, drop, Some, None}
use Rattle.plans.specs.declared.{part.Part.Part, part.Stored.Stored, word.Word.Word}
use Rattle.plans.specs.declared.part.Part.TheVariants as part
use Rattle.plans.specs.declared.word.Rule.TheVariants as rule
use Rattle.plans.specs.declared.word.Step.TheVariants as step
use Rattle.plans.specs.declared.word.Word.TheVariants as word

abbrev pub takes_number : Part → Bool
takes_number (part.Turns thread) = true
takes_number (part.Expiries thread) = true
takes_number (part.AloneMost thread) = true
takes_number part.TurnAboutMost = true
takes_number (part.BySmallSeedMost seed) = true
takes_number part.BySeedMost = true
takes_number part.CloseTimes = true
takes_number _ = false

abbrev pub takes_seed : Part → Bool
takes_seed part.BySeed = true
takes_seed part.BySeedMost = true
takes_seed _ = false

-- the word of a part with this number and this seed
abbrev pub word_with : Part → ℕ → ℕ → Word
word_with (part.Turn thread) number seed = word.Step (step.Make (record { thread = thread; expiry = false }) 1)
word_with (part.Turns thread) number seed = word.Step (step.Make (record { thread = thread; expiry = false }) number)
word_with (part.Expiry thread) number seed = word.Step (step.Make (record { thread = thread; expiry = true }) 1)
word_with (part.Expiries thread) number seed = word.Step (step.Make (record { thread = thread; expiry = true }) number)
word_with (part.Alone thread) number seed = word.Step (step.Follow (rule.Alone thread) None)
word_with (part.AloneMost thread) number seed = word.Step (step.Follow (rule.Alone thread) (Some number))
word_with part.TurnAbout number seed = word.Step (step.Follow rule.TurnAbout None)
word_with part.TurnAboutMost number seed = word.Step (step.Follow rule.TurnAbout (Some number))
word_with (part.BySmallSeed small) number seed = word.Step (step.Follow (rule.BySeed small) None)
word_with (part.BySmallSeedMost small) number seed = word.Step (step.Follow (rule.BySeed small) (Some number))
word_with part.BySeed number seed = word.Step (step.Follow (rule.BySeed seed) None)
word_with part.BySeedMost number seed = word.Step (step.Follow (rule.BySeed seed) (Some number))
word_with part.Open number seed = word.Open
word_with part.Close number seed = word.Close 1
word_with part.CloseTimes number seed = word.Close number

-- a word that is stored: what it doesn't take is 0
pub record Holds (stored : Stored) (one : Word) : Type 0 where
  pub word : word_with stored.part stored.number stored.seed ≡ one
  pub number : takes_number stored.part ≡ false → stored.number ≡ 0
  pub seed : takes_seed stored.part ≡ false → stored.seed ≡ 0

-- the first of some numbers, if the part has one, and those after it
abbrev pub first_of : List ℕ → ℕ
first_of [] = 0
first_of (number ∷ numbers) = number

abbrev pub taken_of : Bool → List ℕ → ℕ
taken_of takes numbers = if takes then first_of numbers else 0

abbrev pub left_of : Bool → List ℕ → List ℕ
left_of takes numbers = if takes then drop 1 numbers else numbers

abbrev pub put_of : Bool → ℕ → List ℕ
put_of takes number = if takes then number ∷ [] else []

-- the words of these parts, the numbers and the seeds that they take in order
abbrev pub words_of_parts : List Part → List ℕ → List ℕ → List Word
words_of_parts [] numbers seeds = []
words_of_parts (one ∷ parts) numbers seeds =
    word_with one (taken_of (takes_number one) numbers) (taken_of (takes_seed one) seeds)
    ∷ words_of_parts parts (left_of (takes_number one) numbers) (left_of (takes_seed one) seeds)
