-- Runs that a reader adds to a list, and what is played with them.
use Rattle.std.proofs.Common.{◌≡◌, ◌≢◌, ◌∙◌, ◌++◌, ◌⊎◌, ◌≤◌, ℕ, Bool, false, inl, inr, List, [], Ok, Err, None, Result, ap, sym, subst, refl, append-nil, append_assoc, Option, Some, length, arith, rules, IfOk, IfErr, OnOk}
use Rattle.std.proofs.lemmas.Grind.{flat_map-append}
use Rattle.std.specs.Io.KnownBytes.{Appends, Consumes, IsAtEnd}
use Rattle.schedule_reader.specs.declared.fault.ScheduleFault.{ScheduleFault, TheVariants.Memory}
use Rattle.schedule_reader.specs.{declared.run.Run.Run, Places.Progress, Places.HasRead, Reading.Adds, Reading.answer_of}
use Rattle.schedule_reader.specs.Schedule.{Schedule, open_schedule, finished_schedule, choices_of}
use Rattle.thread_machine.specs.World.{World}
use Rattle.trace_text.specs.{declared.play.Refused.Refused, declared.run.RunFault.RunFault, Outcome.StopsFrom}
use Rattle.trace_text.specs.Playing.{IsUpTo, PlaysOn, PlaysTo, StopsAt, WritesOn, WritesPartOn}
use Rattle.trace_text.specs.RunText.{HasFault, HasNoEarlierFault, faulty_after}
use Rattle.trace_text.specs.Trace.{AppendsPartOf, lines_of}
use Rattle.trace_text.specs.declared.run.RunFault.TheVariants as fault
use Rattle.trace_text.proofs.Plays.{Part-longer}

-- what a call added to an empty list stands between the shorter stream's runs and what was missing
added_first : (told : Result (Unit {0}) ScheduleFault) (shorter longer : Schedule) (before after : List Run) → before ≡ []
    → (adds : Adds told shorter longer before after)
    → choices_of longer.runs ≡ (choices_of shorter.runs ++ choices_of after) ++ choices_of adds.missing
added_first told shorter longer before after empty adds = grind (arith, append_assoc, flat_map-append)

-- nothing is missing where memory wasn't wanting
all_added : (told : Result (Unit {0}) ScheduleFault) (shorter longer : Schedule) (before after : List Run) → before ≡ []
    → told ≢ Err Memory → Adds told shorter longer before after
    → choices_of longer.runs ≡ choices_of shorter.runs ++ choices_of after
all_added told shorter longer before after empty enough adds =
    added_first told shorter longer before after empty adds
    ∙ elim adds.all [
      | inl e ↦ absurd (enough e)
      | inr none ↦ ap (λ missing. (choices_of shorter.runs ++ choices_of after) ++ choices_of missing) none ∙ append-nil _
    ]

-- all is played
added-plays : (told : Result (Unit {0}) ScheduleFault) (shorter longer : Schedule) (first before after : World) (was all : Option Refused)
    (old known new : Option (List ℕ)) (start runs : List Run) → start ≡ [] → told ≢ Err Memory
    → Adds told shorter longer start runs → PlaysTo first before (choices_of shorter.runs) was old known
    → PlaysOn before after was all (choices_of runs) known new → PlaysTo first after (choices_of longer.runs) all old new
added-plays told shorter longer first before after was all old known new start runs empty enough adds plays on =
    subst (λ choices. PlaysTo first after choices all old new) (sym (all_added told shorter longer start runs empty enough adds))
    (on first (choices_of shorter.runs) old plays)

pub added-writes : (told : Result (Unit {0}) ScheduleFault) (shorter longer : Schedule) (first before : World) (was : Option Refused)
    (old known new : Option (List ℕ)) (start runs : List Run) → start ≡ [] → told ≢ Err Memory
    → Adds told shorter longer start runs → PlaysTo first before (choices_of shorter.runs) was old known
    → WritesOn before was (choices_of runs) known new → Appends old new (lines_of first (choices_of longer.runs))
added-writes told shorter longer first before was old known new start runs empty enough adds plays on =
    subst (λ choices. Appends old new (lines_of first choices)) (sym (all_added told shorter longer start runs empty enough adds))
    (on first (choices_of shorter.runs) old plays)

pub added-writes_part : (told : Result (Unit {0}) ScheduleFault) (shorter longer : Schedule) (first before : World) (was : Option Refused)
    (old known new : Option (List ℕ)) (start runs : List Run) → start ≡ []
    → Adds told shorter longer start runs → PlaysTo first before (choices_of shorter.runs) was old known
    → WritesPartOn before was (choices_of runs) known new → AppendsPartOf old new (lines_of first (choices_of longer.runs))
added-writes_part told shorter longer first before was old known new start runs empty adds plays on =
    subst (λ choices. AppendsPartOf old new (lines_of first choices)) (sym (added_first told shorter longer start runs empty adds))
    (Part-longer first (choices_of shorter.runs ++ choices_of runs) (choices_of adds.missing) old new
    (on first (choices_of shorter.runs) old plays))

-- a reader that has told no want of memory stands behind its bytes
pub has_read : (told : Result (Unit {0}) ScheduleFault) (reader : Progress) (bytes : List ℕ) → told ≢ Err Memory
    → (told ≡ Err Memory) ⊎ HasRead reader bytes → HasRead reader bytes
has_read told reader bytes enough given = grind arith

end_without_fault : (told : Result (Unit {0}) ScheduleFault) (schedule : Schedule) → told ≡ Ok tt
    → (told ≡ Err Memory) ⊎ (told ≡ answer_of schedule) → schedule.fault ≡ None
end_without_fault told schedule is given = grind arith

-- a piece's tokens are played
pub piece-plays : {E : Type 0} (result : Result (Option Refused) E) (told : Result (Unit {0}) ScheduleFault) (bytes longer : List ℕ)
    (first before after : World) (was : Option Refused) (old known new : Option (List ℕ)) (start runs : List Run) (now next : Progress)
    → start ≡ [] → IsUpTo first before bytes now was old known → OnOk result (told ≡ Ok tt)
    → Adds told (open_schedule bytes) (open_schedule longer) start runs
    → (told ≡ Err Memory) ⊎ (told ≡ answer_of (open_schedule longer))
    → (told ≡ Err Memory) ⊎ HasRead next longer
    → IfOk result (λ all. PlaysOn before after was all (choices_of runs) known new)
    → IfOk result (λ all. IsUpTo first after longer next all old new)
piece-plays (Ok all) told bytes longer first before after was old known new start runs now next empty up is adds answer read on =
    let enough : told ≢ Err Memory = λ memory. let no : ◌≡◌ {A = Result (Unit {0}) ScheduleFault} (Ok tt) (Err Memory) = sym is ∙ memory in cc in
    record {
      reads = has_read told next longer enough read;
      free = end_without_fault told (open_schedule longer) is answer;
      plays = added-plays told (open_schedule bytes) (open_schedule longer) first before after was all old known new start runs
          empty enough adds up.plays on;
    }
piece-plays (Err e) told bytes longer first before after was old known new start runs now next empty up is adds answer read on = on

-- behind a fault nothing makes a difference
pub faulty_then : (reader : Progress) (bytes rest : List ℕ) (fault : ScheduleFault) → reader.fault ≡ Some fault → HasRead reader bytes
    → finished_schedule (bytes ++ rest) ≡ faulty_after (open_schedule bytes).runs fault
faulty_then reader bytes rest fault is read = search rules

-- a fault that was told is not want of memory
pub told_other : (told : Result (Unit {0}) ScheduleFault) (fault : ScheduleFault) → told ≡ Err fault → fault ≢ Memory → told ≢ Err Memory
told_other told fault is other = λ memory. other (let same : fault ≡ Memory = cc in same)

-- the fault of a reader that has told it
pub fault_told : (told : Result (Unit {0}) ScheduleFault) (fault : ScheduleFault) (reader : Progress) → told ≡ Err fault
    → IfErr told (λ f. reader.fault ≡ Some f) → reader.fault ≡ Some fault
fault_told told fault reader is err = subst (λ (t : Result (Unit {0}) ScheduleFault). IfErr t (λ f. reader.fault ≡ Some f)) is err

-- a fault that was answered
pub end_with_fault : (told : Result (Unit {0}) ScheduleFault) (schedule : Schedule) (fault : ScheduleFault) → told ≡ Err fault
    → told ≢ Err Memory → (told ≡ Err Memory) ⊎ (told ≡ answer_of schedule) → schedule.fault ≡ Some fault
end_with_fault told schedule fault is enough given = grind arith

-- an answer that is none is no want of memory
told_none : (told : Result (Unit {0}) ScheduleFault) → told ≡ Ok tt → told ≢ Err Memory
told_none told is = λ memory. let no : ⊥ = cc in no

-- the last token was played, where there is no fault
pub end-plays : {E : Type 0} (result : Result (Option Refused) E) (told : Result (Unit {0}) ScheduleFault) (bytes : List ℕ)
    (first before after : World) (was : Option Refused) (old known new : Option (List ℕ)) (start runs : List Run) (now : Progress)
    → start ≡ [] → IsUpTo first before bytes now was old known
    → Adds told (open_schedule bytes) (finished_schedule bytes) start runs
    → (told ≡ Err Memory) ⊎ (told ≡ answer_of (finished_schedule bytes)) → OnOk result (told ≡ Ok tt)
    → IfOk result (λ all. PlaysOn before after was all (choices_of runs) known new)
    → IfOk result (λ all. ((finished_schedule bytes).fault ≡ None)
    × PlaysTo first after (choices_of (finished_schedule bytes).runs) all old new)
end-plays (Ok all) told bytes first before after was old known new start runs now empty up adds answer is on = (
  end_without_fault told (finished_schedule bytes) is answer,
  added-plays told (open_schedule bytes) (finished_schedule bytes) first before after was all old known new start runs empty
      (told_none told is) adds up.plays on,
)
end-plays (Err e) told bytes first before after was old known new start runs now empty up adds answer is on = on

-- a schedule by its fault
pub schedule_by_fault : (schedule : Schedule) (fault : Option ScheduleFault) → schedule.fault ≡ fault
    → schedule ≡ record { runs = schedule.runs; fault = fault }
schedule_by_fault schedule fault is = grind arith

-- what stops a run whose reader has gone on from one schedule to a longer one
stops-behind : (f : RunFault) (told : Result (Unit {0}) ScheduleFault) (shorter longer : Schedule) (bytes : List ℕ) (first before : World)
    (was : Option Refused) (schedule_before schedule_after old known new : Option (List ℕ)) (failed other : Bool) (start runs : List Run)
    → start ≡ [] → PlaysTo first before (choices_of shorter.runs) was old known → Consumes schedule_before schedule_after bytes
    → failed ≡ false → Adds told shorter longer start runs
    → ((e : ScheduleFault) → told ≡ Err e → told ≢ Err Memory → HasNoEarlierFault bytes × HasFault bytes schedule_after longer.runs e)
    → (longer ≡ open_schedule bytes) ⊎ (IsAtEnd schedule_after × (longer ≡ finished_schedule bytes))
    → StopsAt f told before was (choices_of runs) known new other
    → StopsFrom first f schedule_before schedule_after failed old new other
stops-behind (fault.Schedule f) told shorter longer bytes first before was schedule_before schedule_after old known new failed other start runs
    empty plays consumed sound adds faulty at (is, is_other, writes) =
    let enough = told_other told f is is_other in
    let (free, has) = faulty f is enough in
    let all = added-writes told shorter longer first before was old known new start runs empty enough adds plays writes in
    (sound, (bytes, (longer.runs, (is_other, consumed, free, has, all))))
stops-behind fault.Memory told shorter longer bytes first before was schedule_before schedule_after old known new failed other start runs
    empty plays consumed sound adds faulty at writes =
    let part = added-writes_part told shorter longer first before was old known new start runs empty adds plays writes in
    (sound, (bytes, (longer, (consumed, at, part))))
stops-behind fault.Write told shorter longer bytes first before was schedule_before schedule_after old known new failed other start runs
    empty plays consumed sound adds faulty at writes = writes
stops-behind _ told shorter longer bytes first before was schedule_before schedule_after old known new failed other start runs empty plays consumed sound adds faulty at never = absurd never

-- behind a piece of its schedule
pub piece-stops : (f : RunFault) (told : Result (Unit {0}) ScheduleFault) (bytes piece : List ℕ) (first before : World) (was : Option Refused)
    (schedule_before schedule_after old known new : Option (List ℕ)) (failed other : Bool) (start runs : List Run) (now next : Progress)
    → start ≡ [] → IsUpTo first before bytes now was old known → Consumes schedule_before schedule_after (bytes ++ piece)
    → length piece ≤ 4096 → failed ≡ false
    → Adds told (open_schedule bytes) (open_schedule (bytes ++ piece)) start runs
    → (told ≡ Err Memory) ⊎ HasRead next (bytes ++ piece) → IfErr told (λ e. next.fault ≡ Some e)
    → StopsAt f told before was (choices_of runs) known new other
    → StopsFrom first f schedule_before schedule_after failed old new other
piece-stops f told bytes piece first before was schedule_before schedule_after old known new failed other start runs now next
    empty up consumed few sound adds read err stops =
    let longer = bytes ++ piece in
    stops-behind f told (open_schedule bytes) (open_schedule longer) longer first before was schedule_before schedule_after old known new
    failed other start runs empty up.plays consumed sound adds
    (λ e is enough. (
      (bytes, (piece, (refl, few, up.free))),
      inr (λ rest. faulty_then next longer rest e (fault_told told e next is err) (has_read told next longer enough read)),
    )) (inl refl) stops

-- and behind its last token
pub end-stopped : {A : Type 0} (result : Result A RunFault) (told : Result (Unit {0}) ScheduleFault) (bytes : List ℕ) (first before : World) (was : Option Refused)
    (schedule_before schedule_after old known new : Option (List ℕ)) (failed other : Bool) (start runs : List Run) (now : Progress)
    → start ≡ [] → IsUpTo first before bytes now was old known → Consumes schedule_before schedule_after bytes → IsAtEnd schedule_after
    → failed ≡ false → Adds told (open_schedule bytes) (finished_schedule bytes) start runs
    → (told ≡ Err Memory) ⊎ (told ≡ answer_of (finished_schedule bytes))
    → IfErr result (λ f. StopsAt f told before was (choices_of runs) known new other)
    → IfErr result (λ f. StopsFrom first f schedule_before schedule_after failed old new other)
end-stopped (Ok x) told bytes first before was schedule_before schedule_after old known new failed other start runs now
    empty up consumed end sound adds answer stops = stops
end-stopped (Err f) told bytes first before was schedule_before schedule_after old known new failed other start runs now
    empty up consumed end sound adds answer stops =
    let schedule = finished_schedule bytes in
    stops-behind f told (open_schedule bytes) schedule bytes first before was schedule_before schedule_after old known new failed other start runs
    empty up.plays consumed sound adds
    (λ e is enough. (
      (bytes, ([], (sym (append-nil bytes), omega arith, up.free))),
      inl (end, schedule_by_fault schedule (Some e) (end_with_fault told schedule e is enough answer)),
    )) (inr (end, refl)) stops
