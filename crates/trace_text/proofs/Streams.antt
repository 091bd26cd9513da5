-- Bytes that are read one piece after another.
use Rattle.std.proofs.Common.{◌≡◌, ◌∙◌, inr, refl, ◌+◌, ◌<◌, ◌≤◌, ◌++◌, [], ◌∷◌, ℕ, Bool, true, false, IsTrue, List, Option, Some, length, take, ap, sym, subst, length-append, arith, length-take, Result, Ok, Err, IfOk, OnOk, None, option_map}
use Rattle.std.proofs.KnownBytes.{Appends-trans, Consumes-trans}
use Rattle.std.specs.Io.KnownBytes.{Appends, Consumes, IsAtEnd}
use Rattle.byte_ports.specs.Port.{FailsForGood}
use Rattle.schedule_reader.specs.Schedule.{Schedule, finished_schedule, choices_of}
use Rattle.thread_machine.specs.{Standing.standing_of, World.World, declared.choice.Choice.Choice, Execution.execution, declared.fault.StepFault.StepFault, Step.refusal_of}
use Rattle.trace_text.specs.{declared.play.Refused.Refused, Lines.refusal_text, declared.run.RunFault.RunFault, Start.Begins, Outcome.EndsFrom, Outcome.Stops, Outcome.StopsFrom, declared.play.PlayFault.PlayFault, RunText.AreTraced, RunText.refusal_in, State.state_text, declared.run_end.RunEnd.RunEnd}
use Rattle.trace_text.specs.Playing.{HasPlayedAll, PlaysTo, played_fault, row_of, refusal_reported}
use Rattle.trace_text.specs.Trace.{AppendsPartOf, lines_of, refused_of}
use Rattle.trace_text.specs.declared.run.RunFault.TheVariants as fault
use Rattle.trace_text.specs.declared.play.PlayFault.TheVariants as play
use Rattle.row_code.specs.declared.image.Image.{Image}
use Rattle.trace_text.proofs.{Plays.Part-whole, Plays.refused_there, Schedules.schedule_by_fault}

-- a read of nothing
pub consumes-none : (a b c : Option (List ℕ)) (bytes buffer : List ℕ) (n : ℕ) → n ≡ 0
    → Consumes a b bytes → Consumes b c (take n buffer) → Consumes a c bytes
consumes-none a b c bytes buffer n none first second = grind (arith, Consumes-trans)

-- a read gives a byte at least
pub longer_by_piece : (bytes buffer piece : List ℕ) (n turns : ℕ) → piece ≡ take n buffer → n ≤ length buffer → 0 < n
    → turns ≤ length bytes → turns + 1 ≤ length (bytes ++ piece)
longer_by_piece bytes buffer piece n turns is within some many = grind (arith, length-append, length-take)

-- a schedule was played to its end
pub played-all : {E : Type 0} (result : Result (Option Refused) E) (first last : World) (bytes : List ℕ) (schedule_before schedule_after old new : Option (List ℕ))
    → Consumes schedule_before schedule_after bytes → IsAtEnd schedule_after
    → IfOk result (λ all. ((finished_schedule bytes).fault ≡ None) × PlaysTo first last (choices_of (finished_schedule bytes).runs) all old new)
    → IfOk result (λ all. HasPlayedAll first last all schedule_before schedule_after old new)
played-all result first last bytes schedule_before schedule_after old new consumed end p = grind (arith, schedule_by_fault)

-- what holds whatever is answered holds where there is a value
pub on_ok : {T E : Type 0} (result : Result T E) (P : Type 0) → P → OnOk result P
on_ok result P p = grind arith

-- a source that answers hasn't failed
pub has_answered : {T E : Type 0} (x : T) (before after : Bool) (result : Result T E) → result ≡ Ok x → FailsForGood before after result
    → after ≡ false
has_answered x before false result is fails = refl
has_answered x before true result is fails = grind arith

-- what is told of a run's end, beside the world that it leaves
abbrev pub TellsEnd : World → Option Refused → RunEnd → Type 0
TellsEnd last refused end =
    (end.standing ≡ standing_of last) × (end.state.items ≡ state_text last) × (end.refused ≡ option_map (refusal_reported last) refused)

-- the line of a choice that is refused
refused_line : (world : World) (choice : Choice) (why : StepFault) → refusal_of world choice ≡ Some why
    → refusal_text (world.choices + 1) choice (row_of world choice) ≡ lines_of world (choice ∷ [])
refused_line world choice why is = grind arith

told_so : (first last : World) (choices : List Choice) (refused : Option Refused) → last ≡ (execution first choices).world
    → refused ≡ refused_of first choices → option_map (refusal_reported last) refused ≡ option_map (refusal_in last) (refused_of first choices)
told_so first last choices None world_is is = ap (option_map (refusal_in last)) is
told_so first last choices (Some refused) world_is is =
    let there = refused_there choices first refused is in
    let line = refused_line last refused.choice refused.why (ap (λ (w : World). refusal_of w refused.choice) world_is ∙ there) in
    ap (λ text. Some (record { number = last.choices + 1; line = text; choice = refused.choice; why = refused.why })) line ∙ ap (option_map (refusal_in last)) is

-- the lines, and then the state that they leave
traced_by : (end : RunEnd) (first last : World) (choices : List Choice) (refused : Option Refused) (old between new : Option (List ℕ))
    → PlaysTo first last choices refused old between → TellsEnd last refused end → Appends between new (state_text last)
    → AreTraced first choices end old new
traced_by end first last choices refused old between new plays tells appends = grind (arith, told_so, Appends-trans)

pub are_traced : {E : Type 0} (result : Result RunEnd E) (first last : World) (choices : List Choice) (refused : Option Refused)
    (old between new : Option (List ℕ)) → PlaysTo first last choices refused old between
    → IfOk result (TellsEnd last refused) → OnOk result (Appends between new (state_text last))
    → IfOk result (λ end. AreTraced first choices end old new)
are_traced (Ok end) first last choices refused old between new plays tells appends =
    traced_by end first last choices refused old between new plays tells appends
are_traced (Err e) first last choices refused old between new plays tells appends = appends

-- of a whole schedule
pub ended : {E : Type 0} (result : Result RunEnd E) (first last : World) (all : Option Refused)
    (schedule_before schedule_after old between new : Option (List ℕ))
    → HasPlayedAll first last all schedule_before schedule_after old between
    → IfOk result (TellsEnd last all) → OnOk result (Appends between new (state_text last))
    → IfOk result (λ end. EndsFrom first end schedule_before schedule_after old new)
ended (Ok end) first last all schedule_before schedule_after old between new
    (bytes, (runs, (consumed, at_end, is, plays))) tells appends =
    (bytes, (runs, (consumed, at_end, is, traced_by end first last (choices_of runs) all old between new plays tells appends)))
ended (Err e) first last all schedule_before schedule_after old between new played tells appends = appends

-- a part of the trace was written, where its state was not
pub broken_off : (first last : World) (all : Option Refused) (schedule_before schedule_after old between new : Option (List ℕ)) (failed other : Bool)
    → HasPlayedAll first last all schedule_before schedule_after old between → failed ≡ false → new ≡ between
    → StopsFrom first fault.Memory schedule_before schedule_after failed old new other
broken_off first last all schedule_before schedule_after old between new failed other (bytes, (runs, (consumed, at_end, is, plays))) sound same =
    let whole = subst (λ rs. Appends old between (lines_of first (choices_of rs))) (ap (λ (schedule : Schedule). schedule.runs) (sym is)) plays.lines in
    let lines = lines_of first (choices_of (finished_schedule bytes).runs) in (
      sound,
      (
        bytes,
        (
          finished_schedule bytes,
          (consumed, inr (at_end, refl), subst (λ out. AppendsPartOf old out lines) (sym same) (Part-whole old between lines whole)),
        ),
      ),
    )

-- what stops behind the first world of an image's program stops its run
pub stops : (f : RunFault) (image : Image) (world : World) (schedule_before schedule_after old new : Option (List ℕ)) (failed other : Bool)
    → Begins image world → StopsFrom world f schedule_before schedule_after failed old new other
    → Stops image f schedule_before schedule_after failed old new other
stops f image world schedule_before schedule_after old new failed other begins from = grind arith

-- a run stops whose state can't be written
pub unfinished : (f : PlayFault) (image : Image) (first last : World) (all : Option Refused) (schedule_before schedule_after old between new : Option (List ℕ))
    (failed other : Bool) → Begins image first → HasPlayedAll first last all schedule_before schedule_after old between
    → failed ≡ false → (f ≡ play.Memory → new ≡ between) → (f ≡ play.Write → IsTrue other)
    → Stops image (played_fault f) schedule_before schedule_after failed old new other
unfinished play.Memory image first last all schedule_before schedule_after old between new failed other begins played sound same write =
    inr (first, (begins, broken_off first last all schedule_before schedule_after old between new failed other played sound (same refl)))
unfinished play.Write image first last all schedule_before schedule_after old between new failed other begins played sound same write = grind arith
