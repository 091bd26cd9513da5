-- Whether a program has ended, is stuck, or can go on.
use Rattle.std.specs.Prelude.{ℕ, if◌then◌else◌, List, [], ◌∷◌, codes}
use Rattle.thread_machine.specs.{declared.standing.Standing.Standing, World.World, Ready.has_ended, Ready.is_stuck}
use Rattle.thread_machine.specs.declared.standing.Standing.TheVariants as standing

-- every thread has ended or died; or no choice of any other can take a step; or some choice can
abbrev pub standing_of : World → Standing
standing_of world = if has_ended world then standing.All else (if is_stuck world then standing.Stuck else standing.Live)

-- the word for it
abbrev pub name_of : Standing → List ℕ
name_of standing.All = codes "all"
name_of standing.Stuck = codes "stuck"
name_of standing.Live = codes "live"

abbrev pub names : List (List ℕ)
names = codes "all" ∷ codes "stuck" ∷ codes "live" ∷ []
