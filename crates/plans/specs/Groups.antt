-- What words have played, whichever plan they are written for.
use Rattle.std.specs.Prelude.{◌≡◌, ◌-◌, ℕ, Option, Some, None, List, [], ◌∷◌, ◌++◌}
use Rattle.plans.specs.{declared.word.Word.Word, Tree.Plan, Tree.words_of_plan, Progress.Progress, Play.plays, Play.repeated}
use Rattle.plans.specs.declared.word.Word.TheVariants as word

-- what may follow a plan: the parenthesis that closes its group, or nothing
abbrev pub IsEnd : List Word → Type 0
IsEnd [] = Unit {0}
IsEnd (word.Step step ∷ rest) = ⊥
IsEnd (word.Open ∷ rest) = ⊥
IsEnd (word.Close times ∷ rest) = Unit {0}

-- what is where words end: the parenthesis that closes their group and what follows it, or nothing
abbrev pub ending : Option ℕ → List Word → List Word
ending (Some times) rest = word.Close times ∷ rest
ending None rest = []

-- words lead from one progress to the next as the plan does that they are written for, and end there
pub record Played (plan : Plan) (tail : List Word) (times : Option ℕ) (rest : List Word) (before later : Progress) : Type 0 where
  pub ended : tail ≡ ending times rest
  pub after : later ≡ plays plan before

abbrev pub HasPlayed : List Word → Option ℕ → List Word → Progress → Progress → Type 0
HasPlayed words times rest before after =
    (plan : Plan) (tail : List Word) → words ≡ words_of_plan plan ++ tail → IsEnd tail → Played plan tail times rest before after

-- a group after its first parenthesis
pub record PlayedGroup (body : Plan) (times : ℕ) (tail rest : List Word) (before later : Progress) : Type 0 where
  pub behind : rest ≡ tail
  pub after : later ≡ repeated (times - 1) (λ p. plays body p) (plays body before)

abbrev pub HasPlayedGroup : List Word → List Word → Progress → Progress → Type 0
HasPlayedGroup words rest before after =
    (body : Plan) (times : ℕ) (tail : List Word) → words ≡ words_of_plan body ++ word.Close times ∷ tail
    → PlayedGroup body times tail rest before after

-- words that were played once, again until it was so many times
abbrev pub HasPlayedAgain : List Word → ℕ → Progress → Progress → Type 0
HasPlayedAgain words times once after =
    (body : Plan) (tail : List Word) → words ≡ words_of_plan body ++ tail → IsEnd tail
    → after ≡ repeated (times - 1) (λ p. plays body p) once
