-- The text of a list of runs.
use Rattle.std.specs.Prelude.{ℕ, ◌==◌, if◌then◌else◌, Bool, true, false, List, [], ◌∷◌, ◌++◌}
use Rattle.std.specs.Fmt.{decimal}
use Rattle.schedule_reader.specs.declared.run.Run.{Run}

-- 120 is `x`, 116 is `t`
abbrev pub letter_of : Bool → ℕ
letter_of true = 120
letter_of false = 116

-- the count, if it is above 1; 42 is the star
abbrev pub times_text : ℕ → List ℕ
times_text times = if times == 1 then [] else 42 ∷ decimal times

-- a run as a token
abbrev pub token_of : Run → List ℕ
token_of run = letter_of run.choice.expiry ∷ (decimal run.choice.thread ++ times_text run.times)

-- tokens that follow another, a space before each
abbrev pub spaced_tokens : List Run → List ℕ
spaced_tokens [] = []
spaced_tokens (run ∷ runs) = 32 ∷ (token_of run ++ spaced_tokens runs)

-- a token for each run, one space between them
abbrev pub schedule_text : List Run → List ℕ
schedule_text [] = []
schedule_text (run ∷ runs) = token_of run ++ spaced_tokens runs
