-- The same world or execution with another limit of steps.
use Rattle.std.specs.Prelude.{ℕ}
use Rattle.thread_machine.specs.{World.World, Execution.Execution}

-- a world with another limit
abbrev pub with_limit : ℕ → World → World
with_limit limit world = record world { limit = limit }

-- an execution whose world has another limit
abbrev pub under_limit : ℕ → Execution → Execution
under_limit limit done = record done { world = with_limit limit done.world }
