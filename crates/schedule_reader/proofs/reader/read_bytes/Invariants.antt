use Rattle.std.proofs.Common.{◌+◌, ◌-◌, ◌*◌, ◌≤◌, ◌++◌, ℕ, Bool, List, length, drop, All, Ok}
use Rattle.std.specs.Vec.{vec_capacity}
use Rattle.schedule_reader.specs.{Schedule.IsRun, Places.IsPlace, Places.Takes, Places.spent, Places.schedule_from}
use Rattle.schedule_reader.proofs.reader.read_bytes.Given as goal

-- the runs so far and what the rest of the piece adds are what the whole piece adds
abbrev pub invariant-loop-done : goal.invariant-loop-done
invariant-loop-done l = record {
  within : l.done ≤ length l.piece;
  place : IsPlace (l.at + l.done) l.next;
  takes : Takes (Ok l.next) l.initial.runs.items l.runs.items
      (λ (stream : Bool × List ℕ). schedule_from stream.0 l.fn.place l.fn.at (l.piece ++ stream.1))
      (λ stream next. schedule_from stream.0 next (l.fn.at + l.done) (drop l.done l.piece ++ stream.1));
  spelled : All IsRun l.initial.runs.items → All IsRun l.runs.items;
  few : 3 * length l.runs.items + spent l.next ≤ 3 * length l.initial.runs.items + spent l.fn.place + l.done;
  room : vec_capacity l.initial.runs ≤ vec_capacity l.runs;
}

abbrev pub decreases-loop-done : goal.decreases-loop-done
decreases-loop-done l = length l.piece - l.done
