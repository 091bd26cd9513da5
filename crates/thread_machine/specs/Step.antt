-- What one choice does to the world.
use Rattle.std.specs.Prelude.{◌+◌, ◌==◌, ◌&&◌, ◌||◌, not, nat_le, if◌then◌else◌, Bool, length, Option, Some, None}
use Rattle.loader.specs.Program.{row_at}
use Rattle.thread_state.specs.{declared.event.Event.Event, Thread.ThreadState}
use Rattle.thread_state.specs.declared.event.What.TheVariants as what
use Rattle.thread_state.specs.declared.event.Mark.TheVariants as mark
use Rattle.machine_scene.specs.{Scene.Outcome, Scene.thread_at, DataRows.may_grow}
use Rattle.thread_machine.specs.{declared.choice.Choice.Choice, declared.fault.StepFault.StepFault, World.World}
use Rattle.thread_machine.specs.Ready.{outcome_of_choice, is_choice_ready}
use Rattle.thread_machine.specs.declared.fault.StepFault.TheVariants as fault

-- the world after a choice, and the choice's event
pub record Played : Type 0 where
  pub world : World
  pub event : Event

-- an effective step
abbrev pub stepped : Outcome → World → Played
stepped outcome world = record {
  world = record world { scene = outcome.scene; choices = world.choices + 1; steps = world.steps + 1 };
  event = outcome.event;
}

-- an idle choice: only the choices are counted
abbrev pub idled : World → Played
idled world = record {
  world = record world { choices = world.choices + 1 };
  event = record { what = what.Idle; mark = mark.Nothing };
}

-- a choice with an outcome is an effective step, any other is idle
abbrev pub played_by : Option Outcome → World → Played
played_by (Some outcome) world = stepped outcome world
played_by None world = idled world

abbrev pub played : World → Choice → Played
played world choice = played_by (outcome_of_choice world.program choice world.scene) world

-- nothing is left for a choice: all 1,000,000,000,000 choices are used, or the steps are at the limit and the choice is ready,
-- since an idle choice takes no step
abbrev pub is_used_up : World → Choice → Bool
is_used_up world choice =
    (world.choices == 1000000000000)
    || (nat_le world.limit world.steps && is_choice_ready world.program choice world.scene)

-- why a choice is refused, except out of memory
abbrev pub refusal_of : World → Choice → Option StepFault
refusal_of world choice =
    if nat_le (length world.scene.threads) choice.thread then Some fault.NoSuchThread
    else (if is_used_up world choice then Some fault.StepLimit else None)

-- whether the choice may need memory; an expiry never does
abbrev pub puts_out : World → Choice → Bool
puts_out world choice =
    let thread : ThreadState = thread_at world.scene choice.thread in
    not choice.expiry && may_grow (row_at world.program.rows thread.pc) thread
