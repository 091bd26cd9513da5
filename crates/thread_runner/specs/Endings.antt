-- How a run ends.
use Rattle.std.specs.Prelude.{Bool, nat_le, if◌then◌else◌, Option, Some, None, is_some}
use Rattle.thread_machine.specs.{World.World, declared.standing.Standing.Standing, Ready.has_ended, Ready.is_stuck}
use Rattle.thread_machine.specs.declared.standing.Standing.TheVariants as standing
use Rattle.thread_runner.specs.declared.ending.Ending.{Ending, TheVariants.AllEnded, TheVariants.Stuck, TheVariants.Limit}

-- the ending of a run that is in this world, or nothing if some choice can still take a step
abbrev pub ending_of : World → Option Ending
ending_of world =
    if has_ended world then Some AllEnded
    else (if is_stuck world then Some Stuck
    else (if nat_le world.limit world.steps then Some Limit else None))

abbrev pub is_over : World → Bool
is_over world = is_some (ending_of world)

-- the word for the program then
abbrev pub standing_at : Ending → Standing
standing_at AllEnded = standing.All
standing_at Stuck = standing.Stuck
standing_at Limit = standing.Live
