-- A draft as the code has it.
use Rattle.plans.specs.{declared.draft.Reading.Reading, Plan.Draft}

abbrev pub draft_of : Reading → Draft
draft_of reading = record { words = reading.words; depth = reading.depth; opened = reading.opened }
