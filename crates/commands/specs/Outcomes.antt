-- How the results of several runs are counted and written.
use Rattle.std.specs.Prelude.{◌≡◌, ℕ, Bool, if◌then◌else◌, List, [], ◌∷◌, ◌++◌, Option, Some, None, bytes_eq, codes, decimal, filter, flat_map, length, nat_lt, option_map, IsSortedBy}
use Rattle.std.specs.{List.IsDistinct, List.list_all, Global.Vec, String.string_bytes, Map.keys_of, Map.lookup}
use Rattle.trace_text.specs.{Expectation.are_met, ExpectedLine.has_died}
use Rattle.thread_machine.specs.World.{World}
use Rattle.thread_runner.specs.{declared.ending.Ending.Ending, Endings.ending_of, Replay.IsReplayOfText}
use Rattle.commands.specs.{declared.end_state.EndState.EndState, declared.outcomes.Outcome.Outcome, Named.reported_by}
use Rattle.commands.specs.Ends.{end_text, ending_word}
use Rattle.workbench.specs.declared.done.Done.{Done}
use Rattle.workbench.specs.declared.done.Done.TheVariants as done

-- a run that is over: the seed of its order if it has one, its schedule, how it ended, and the state that it ended in
pub record Ended : Type 0 where
  pub seed : Option ℕ
  pub schedule : List ℕ
  pub ending : Ending
  pub state : List ℕ

-- it was played from this world, by no seed: its schedule leads there, each of its choices a step
pub record IsEndedFrom (first : World) (run : Ended) : Type 0 where
  pub world : World
  pub seed : run.seed ≡ None
  pub replay : IsReplayOfText first run.schedule world
  pub ending : ending_of world ≡ Some run.ending
  pub state : run.state ≡ end_text run.ending world

-- whether a run ended in this state
abbrev pub ends_in : List ℕ → Ended → Bool
ends_in state run = bytes_eq state run.state

-- how often runs ended in a state, how the first of them ended, and its seed and its schedule
pub record Reported : Type 0 where
  pub times : ℕ
  pub ending : Ending
  pub seed : Option ℕ
  pub schedule : List ℕ

abbrev pub reported_of : List Ended → Option Reported
reported_of [] = None
reported_of (run ∷ runs) = Some (record { times = length (run ∷ runs); ending = run.ending; seed = run.seed; schedule = run.schedule })

abbrev pub reported_in : List Ended → List ℕ → Option Reported
reported_in runs state = reported_of (filter (ends_in state) runs)

abbrev pub reported : Outcome → Reported
reported outcome = record {
  times = outcome.times;
  ending = outcome.ending;
  seed = outcome.seed;
  schedule = string_bytes outcome.schedule;
}

abbrev pub is_state : EndState → EndState → Bool
is_state a b = bytes_eq a.text.items b.text.items

-- each state that a run ended in is there once, with what is reported about the runs that ended in it, and there is no other
abbrev pub AreOutcomes : List Ended → List (EndState × Outcome) → Type 0
AreOutcomes runs outcomes =
    IsDistinct is_state (keys_of outcomes)
    × ((state : EndState) → option_map reported (lookup (is_state state) outcomes) ≡ reported_in runs state.text.items)

-- whether one outcome came more often than another
abbrev pub is_more_frequent : EndState × Outcome → EndState × Outcome → Bool
is_more_frequent a b = nat_lt b.1.times a.1.times

abbrev pub IsMostFrequentFirst : List (EndState × Outcome) → Type 0
IsMostFrequentFirst outcomes = IsSortedBy is_more_frequent outcomes

-- what follows the word of a state in which a thread has died
abbrev pub died_mark : List ℕ → List ℕ
died_mark state = if has_died state then codes "+died" else []

-- the seed before a schedule, as plans have it
abbrev pub seed_mark : Option ℕ → List ℕ
seed_mark None = []
seed_mark (Some seed) = codes "?" ++ (decimal seed ++ codes " ")

-- the seed and the schedule of an outcome, which end its line; the schedule has these names, if there are some
abbrev pub order_text : (names : Option (List (List ℕ))) → Outcome → List ℕ
order_text names outcome = seed_mark outcome.seed ++ (reported_by names (string_bytes outcome.schedule) ++ codes "\n")

abbrev pub outcome_line : (names : Option (List (List ℕ))) → EndState × Outcome → List ℕ
outcome_line names (state, outcome) =
    decimal outcome.times ++ (codes " " ++ (ending_word outcome.ending ++ (died_mark state.text.items
    ++ (codes " " ++ order_text names outcome))))

abbrev pub report : (names : Option (List (List ℕ))) → List (EndState × Outcome) → List ℕ
report names outcomes = flat_map (outcome_line names) outcomes

-- whether runs that ended in a state ended as they were expected to
abbrev pub is_as_expected : List (Vec ℕ) → EndState × Outcome → Bool
is_as_expected expected outcome = are_met outcome.0.text.items expected

abbrev pub are_as_expected : List (Vec ℕ) → List (EndState × Outcome) → Bool
are_as_expected expected outcomes = list_all (is_as_expected expected) outcomes

-- the command's result
abbrev pub done_by : List (Vec ℕ) → List (EndState × Outcome) → Done
done_by expected outcomes = if are_as_expected expected outcomes then done.AsAsked else done.Unlike
