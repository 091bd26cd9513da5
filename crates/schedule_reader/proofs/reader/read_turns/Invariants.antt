use Rattle.std.proofs.Common.{◌≡◌, ◌+◌, ◌-◌, ◌*◌, ◌≤◌, ◌++◌, ℕ, Bool, List, length, drop, All, Ok}
use Rattle.std.specs.Vec.{vec_capacity}
use Rattle.schedule_reader.specs.{declared.place.Place.TheVariants.Between, Schedule.IsRun, Places.Takes, Places.schedule_from}
use Rattle.schedule_reader.proofs.reader.read_turns.Given as goal

-- the runs so far are those of the turns with which the bytes begin
abbrev pub invariant-loop-thread : goal.invariant-loop-thread
invariant-loop-thread l =
    let done = length l.rest - length l.left in
    record {
      within : length l.left ≤ length l.rest;
      left : l.left ≡ drop done l.rest;
      takes : (at : ℕ) → Takes (Ok done) l.initial.runs.items l.runs.items
          (λ (stream : Bool × List ℕ). schedule_from stream.0 Between at (l.rest ++ stream.1))
          (λ stream (n : ℕ). schedule_from stream.0 Between (at + n) (drop n l.rest ++ stream.1));
      none : done ≡ 0 → l.runs ≡ l.initial.runs;
      spelled : All IsRun l.initial.runs.items → All IsRun l.runs.items;
      few : 3 * length l.runs.items ≤ 3 * length l.initial.runs.items + done;
      room : vec_capacity l.initial.runs ≤ vec_capacity l.runs;
    }

abbrev pub decreases-loop-thread : goal.decreases-loop-thread
decreases-loop-thread l = length l.left
