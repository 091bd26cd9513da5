-- The runs that a reader makes of a whole schedule.
use Rattle.std.proofs.Common.{◌≡◌, List, [], Some, None, Result, Ok, Err, ℕ, Bool, true, false, ◌↔◌, arith, rules, ◌⊎◌, inl, inr}
use Rattle.schedule_reader.specs.declared.{run.Run.Run, fault.ScheduleFault.ScheduleFault}
use Rattle.schedule_reader.specs.{Schedule.open_schedule, Schedule.finished_schedule, Reading.Adds, Reading.answer_of}
use Rattle.schedule_reader.specs.declared.fault.ScheduleFault.TheVariants as fault

-- want of memory, or what holds without it
pub answered : {A : Type 0} (result : Result (Unit {0}) ScheduleFault) → (result ≡ Err fault.Memory → ⊥)
    → (result ≡ Err fault.Memory) ⊎ A → A
answered result other (inl is) = absurd (other is)
answered result other (inr answer) = answer

-- the runs of both parts are those of the whole
pub runs_read : (bytes : List ℕ) (first last : Result (Unit {0}) ScheduleFault) (before middle end : List Run) → before ≡ []
    → Adds first (open_schedule []) (open_schedule bytes) before middle → (first ≡ Err fault.Memory → ⊥)
    → Adds last (open_schedule bytes) (finished_schedule bytes) middle end → last ≡ Ok tt
    → (last ≡ Err fault.Memory) ⊎ (last ≡ answer_of (finished_schedule bytes))
    → finished_schedule bytes ≡ record { runs = end; fault = None }
runs_read bytes first last before middle end nothing some fed more is answer = search rules

pub fault_read : (bytes : List ℕ) (last : Result (Unit {0}) ScheduleFault) (why : ScheduleFault) → last ≡ Err why
    → (last ≡ Err fault.Memory) ⊎ (last ≡ answer_of (finished_schedule bytes))
    → (why ≡ fault.Memory) ⊎ ((finished_schedule bytes).fault ≡ Some why)
fault_read bytes last why is given = grind arith

pub not_refused : (refused : Bool) (told : Result (Unit {0}) ScheduleFault) → ((refused ≡ true) ↔ (told ≡ Err fault.Memory))
    → refused ≡ false → told ≡ Err fault.Memory → ⊥
not_refused true told same is memory = absurd (cc is)
not_refused false told same is memory = absurd (cc (same.1 memory))
