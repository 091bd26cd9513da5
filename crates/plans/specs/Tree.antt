-- How the words of a plan belong together: a plan consists of steps and groups. A group is itself a plan, with the number
-- of times that it is played.
use Rattle.std.specs.Prelude.{◌≡◌, ℕ, List, [], ◌∷◌, ◌++◌}
use Rattle.plans.specs.declared.word.{Step.Step, Word.Word}
use Rattle.plans.specs.declared.word.Word.TheVariants as word

pub data Plan : Type 0 where
  Done : Plan
  Then : Step → Plan → Plan
  Group : Plan → ℕ → Plan → Plan

-- the words that it is written as: a group's are between its parentheses
abbrev pub words_of_plan : Plan → List Word
words_of_plan Done = []
words_of_plan (Then step rest) = word.Step step ∷ words_of_plan rest
words_of_plan (Group body times rest) =
    word.Open ∷ (words_of_plan body ++ word.Close times ∷ words_of_plan rest)

-- some plan is written as these words
abbrev pub IsPlan : List Word → Type 0
IsPlan words = (plan : Plan) × (words_of_plan plan ≡ words)
