-- A schedule with the names of the threads, written as words of a plan. A plan reads each word as its choice.
use Rattle.std.specs.Prelude.{ℕ, ◌==◌, ◌&&◌, if◌then◌else◌, Bool, false, not, List, [], ◌∷◌, ◌++◌, Option, Some, None, Result, Ok, map, option_map, slice_get, unwrap_or}
use Rattle.std.specs.{Borrow.Bor, Fmt.decimal}
use Rattle.line_reader.specs.Seen.{name_seen}
use Rattle.plans.specs.{Plan.words_in_plan, declared.fault.PlanFault.PlanFault, declared.word.Word.Word}
use Rattle.plans.specs.declared.word.Step.TheVariants as step
use Rattle.plans.specs.declared.word.Word.TheVariants as word
use Rattle.schedule_reader.specs.{Schedule.finished_schedule, Text.letter_of, Text.schedule_text, Text.times_text}
use Rattle.schedule_reader.specs.declared.{fault.ScheduleFault.ScheduleFault, run.Run.Run}
use Rattle.thread_machine.specs.declared.choice.Choice.{Choice}

-- a choice by the thread's name: 120 is the `x` of an expiry
abbrev pub name_word : List (List ℕ) → Choice → List ℕ
name_word names choice = (if choice.expiry then 120 ∷ [] else []) ++ unwrap_or (slice_get names choice.thread) []

-- a choice by the thread's number, as schedules have it
abbrev pub number_word : Choice → List ℕ
number_word choice = letter_of choice.expiry ∷ decimal choice.thread

-- whether a word of a plan is this choice, once
abbrev pub is_once : Choice → Word → Bool
is_once choice (word.Step (step.Make who times)) =
    (who.thread == choice.thread) && ((if who.expiry then choice.expiry else not choice.expiry) && (times == 1))
is_once choice _ = false

-- whether what is read of a plan is this choice and nothing else
abbrev pub is_only : Choice → Result (List Word) PlanFault → Bool
is_only choice (Ok (word ∷ [])) = is_once choice word
is_only choice _ = false

-- by name if a plan reads the name as this choice: another thread may have this name, and a thread of an image has none
abbrev pub choice_word : List (List ℕ) → Choice → List ℕ
choice_word names choice =
    if is_only choice (words_in_plan names (name_word names choice)) then name_word names choice else number_word choice

abbrev pub named_token : List (List ℕ) → Run → List ℕ
named_token names run = choice_word names run.choice ++ times_text run.times

-- tokens that follow another, a space before each
abbrev pub spaced_words : List (List ℕ) → List Run → List ℕ
spaced_words names [] = []
spaced_words names (run ∷ runs) = 32 ∷ (named_token names run ++ spaced_words names runs)

-- a token for each run, one space between them
abbrev pub named_text : List (List ℕ) → List Run → List ℕ
named_text names [] = []
named_text names (run ∷ runs) = named_token names run ++ spaced_words names runs

-- names that borrowed bytes spell, if there are some
abbrev pub names_seen : Option (Bor (List (Bor (List ℕ)))) → Option (List (List ℕ))
names_seen names = option_map (λ (ns : Bor (List (Bor (List ℕ)))). map name_seen ns.now) names

-- the text of a schedule, by these names if there are some
abbrev pub text_by : (names : Option (List (List ℕ))) → List Run → List ℕ
text_by None runs = schedule_text runs
text_by (Some names) runs = named_text names runs

-- a line with it
abbrev pub line_by : (names : Option (List (List ℕ))) → List Run → List ℕ
line_by names runs = text_by names runs ++ 10 ∷ []

-- a schedule by names, or as it is if it has a fault, which that of a run hasn't
abbrev pub reported_unless : Option ScheduleFault → (named : List ℕ) → (schedule : List ℕ) → List ℕ
reported_unless None named schedule = named
reported_unless (Some fault) named schedule = schedule

-- the text that is written for a schedule
abbrev pub reported_by : (names : Option (List (List ℕ))) → (schedule : List ℕ) → List ℕ
reported_by None schedule = schedule
reported_by (Some names) schedule =
    reported_unless (finished_schedule schedule).fault (named_text names (finished_schedule schedule).runs) schedule
