-- A schedule that is read without a list.
use Rattle.std.proofs.Common.{◌≡◌, ◌≤◌, ℕ, true, List, [], ◌∷◌, drop, length, refl, arith, append-nil, Option, Some, None, Ok}
use Rattle.std.proofs.lemmas.List.{drop_all}
use Rattle.schedule_reader.specs.declared.{few.Few.Few, run.Run.Run, fault.ScheduleFault.ScheduleFault, place.Place.Place}
use Rattle.schedule_reader.specs.Few.{few_of, with_ended}
use Rattle.schedule_reader.specs.Places.{ended_with, piece_with, schedule_from, with_runs}
use Rattle.schedule_reader.specs.Schedule.{Schedule, faulty, finished_schedule, no_runs}
use Rattle.schedule_reader.proofs.Streams.{finished-end, with_runs-append}

-- these runs were read, they are so few, and this is left
pub record HasSeen (so_few : Few) (whole left : Schedule) : Type 0 where
  pub runs : List Run
  pub few : so_few ≡ few_of runs
  pub all : whole ≡ with_runs runs left

pub ended_before : (runs : List Run) (ended : Option Run) (left : Schedule)
    → with_runs runs (ended_with (Ok ended) left) ≡ with_runs (with_ended runs ended) left
ended_before runs None left = refl
ended_before runs (Some run) left = with_runs-append runs (run ∷ []) left

pub seen_more : (old new : Few) (ended : Option Run) (whole before after : Schedule) → HasSeen old whole before
    → before ≡ ended_with (Ok ended) after → ((runs : List Run) → old ≡ few_of runs → new ≡ few_of (with_ended runs ended))
    → HasSeen new whole after
seen_more old new ended whole before after seen is few = grind (arith, ended_before)

-- at the end
pub seen_end : (few : Few) (bytes : List ℕ) (left : Schedule) → HasSeen few (finished_schedule bytes) left → left ≡ no_runs
    → (few ≡ few_of (finished_schedule bytes).runs) × ((finished_schedule bytes).fault ≡ None)
seen_end few bytes left seen is = grind (arith, append-nil)

pub seen_last : (old new : Few) (bytes : List ℕ) (p : Place) (at n : ℕ) (ended : Option Run)
    → HasSeen old (finished_schedule bytes) (schedule_from true p at (drop n bytes)) → length bytes ≤ n
    → ((more : Schedule) → piece_with p at [] more ≡ ended_with (Ok ended) more)
    → ((runs : List Run) → old ≡ few_of runs → new ≡ few_of (with_ended runs ended))
    → (new ≡ few_of (finished_schedule bytes).runs) × ((finished_schedule bytes).fault ≡ None)
seen_last old new bytes p at n ended seen all is few = grind (arith, drop_all, finished-end, seen_end, seen_more)

-- a fault
pub seen_fault : (few : Few) (bytes : List ℕ) (left : Schedule) (f : ScheduleFault) → HasSeen few (finished_schedule bytes) left
    → left ≡ faulty f → (finished_schedule bytes).fault ≡ Some f
seen_fault few bytes left f seen is = grind arith

pub seen_last_fault : (few : Few) (bytes : List ℕ) (p : Place) (at n : ℕ) (f : ScheduleFault)
    → HasSeen few (finished_schedule bytes) (schedule_from true p at (drop n bytes)) → length bytes ≤ n
    → ((more : Schedule) → piece_with p at [] more ≡ faulty f) → (finished_schedule bytes).fault ≡ Some f
seen_last_fault few bytes p at n f seen all is = grind (arith, seen_fault, drop_all, finished-end)
