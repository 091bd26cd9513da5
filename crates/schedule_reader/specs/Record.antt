-- The text of recorded choices: a token for each choice.
use Rattle.std.specs.Prelude.{◌≤◌, ℕ, List, map}
use Rattle.thread_machine.specs.declared.choice.Choice.{Choice}
use Rattle.schedule_reader.specs.{declared.run.Run.Run, Schedule.run_of, Text.schedule_text}

-- a choice that a token can name
abbrev pub IsNamed : Choice → Type 0
IsNamed choice = choice.thread ≤ 63

-- each choice by itself
abbrev pub once_each : List Choice → List Run
once_each choices = map (λ choice. run_of choice 1) choices

-- a token for each choice, one space between them
abbrev pub record_text : List Choice → List ℕ
record_text choices = schedule_text (once_each choices)
