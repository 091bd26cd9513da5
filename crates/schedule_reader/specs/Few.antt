-- How few runs a schedule has: what can be said of it without a list.
use Rattle.std.specs.Prelude.{List, [], ◌∷◌, ◌++◌, Option, Some, None}
use Rattle.schedule_reader.specs.declared.{run.Run.Run, few.Few.Few}
use Rattle.schedule_reader.specs.declared.few.Few.TheVariants as few

-- none, this one, or two or more
abbrev pub few_of : List Run → Few
few_of [] = few.Nothing
few_of (run ∷ []) = few.One run
few_of (run ∷ next ∷ runs) = few.More

-- these runs, and that of a token that has ended, if one has
abbrev pub with_ended : List Run → Option Run → List Run
with_ended runs None = runs
with_ended runs (Some run) = runs ++ run ∷ []
