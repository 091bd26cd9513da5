-- An idle choice that is made several times.
use Rattle.std.specs.Prelude.{ℕ, ◌-◌, if◌then◌else◌, min}
use Rattle.thread_state.specs.declared.event.Event.{Event}
use Rattle.thread_state.specs.declared.event.What.TheVariants as what
use Rattle.thread_state.specs.declared.event.Mark.TheVariants as mark
use Rattle.thread_machine.specs.{declared.choice.Choice.Choice, World.World, Ready.is_choice_ready}

-- the event of an idle choice
abbrev pub idle_event : Event
idle_event = record { what = what.Idle; mark = mark.Nothing }

-- how often a choice is idle in a row, up to so many times: never if it is ready, and otherwise as long as choices are left
abbrev pub idle_times : World → Choice → ℕ → ℕ
idle_times world choice most =
    if is_choice_ready world.program choice world.scene then 0 else min most (1000000000000 - world.choices)
