-- When a list of runs is joined: if two neighbours have the same choice, the first one has the largest count that a token
-- can have.
use Rattle.std.specs.Prelude.{◌≡◌, List, [], ◌∷◌}
use Rattle.schedule_reader.specs.declared.run.Run.{Run}

-- no run has the choice of the run after it, unless it is as long as a token can say
abbrev pub AreJoined : List Run → Type 0
AreJoined [] = Unit {0}
AreJoined (run ∷ []) = Unit {0}
AreJoined (run ∷ next ∷ runs) = (run.choice ≡ next.choice → run.times ≡ 1000000000) × AreJoined (next ∷ runs)
