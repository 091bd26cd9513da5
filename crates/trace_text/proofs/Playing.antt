-- One part of a schedule after another.
use Rattle.std.proofs.Common.{◌≡◌, ℕ, Bool, true, false, IsTrue, List, Option, Some, None, Result, Ok, Err, refl, subst, sym, arith, IfErr, IfOk, is_some}
use Rattle.schedule_reader.specs.{declared.fault.ScheduleFault.ScheduleFault, declared.run.Run.Run, Schedule.choices_of}
use Rattle.thread_machine.specs.{declared.choice.Choice.Choice, World.World}
use Rattle.trace_text.specs.declared.{play.PlayFault.PlayFault, play.Refused.Refused, run.RunFault.RunFault}
use Rattle.trace_text.specs.Playing.{IsFaultOfReader, PlaysOn, PlaysTo, StopsAt, WritesPartOn, played_fault}
use Rattle.trace_text.specs.Trace.{AppendsPartOf, lines_of}
use Rattle.trace_text.specs.declared.play.PlayFault.TheVariants as play
use Rattle.trace_text.proofs.Plays.{Plays-append, Plays-refused, Part-append, Part-whole}

-- where all choices before were accepted, more are played
pub plays-on : {E : Type 0} (result : Result (Option Refused) E) (before after : World) (was : Option Refused) (choices : List Choice)
    (known new : Option (List ℕ)) → was ≡ None
    → IfOk result (λ all. PlaysTo before after choices all known new)
    → IfOk result (λ all. PlaysOn before after was all choices known new)
plays-on (Ok all) before after was choices known new is q =
    λ first earlier old p. Plays-append first before after earlier choices all old known new
    (subst (λ b. PlaysTo first before earlier b old known) is p) q
plays-on (Err e) before after was choices known new is q = q

pub writes_part-on : (before : World) (was : Option Refused) (choices : List Choice) (known new : Option (List ℕ)) → was ≡ None
    → AppendsPartOf known new (lines_of before choices) → WritesPartOn before was choices known new
writes_part-on before was choices known new is q =
    λ first earlier old p. Part-append first before earlier choices old known new
    (subst (λ b. PlaysTo first before earlier b old known) is p) q

-- after a refusal, no more are
pub refused-on : (before : World) (was : Option Refused) (some : Bool) (choices : List Choice) (known : Option (List ℕ))
    → some ≡ is_some was → some ≡ true → PlaysOn before before was was choices known known
refused-on before None some choices known is so = let no : ⊥ = cc in absurd no
refused-on before (Some refused) some choices known is so =
    λ first earlier old p. Plays-refused first before earlier choices refused old known p

pub none-so : (was : Option Refused) (some : Bool) → some ≡ is_some was → some ≡ false → was ≡ None
none-so was some is not = grind arith

-- what was played, where the reader told no fault behind it
pub told-plays : (result : Result (Option Refused) RunFault) (told : Result (Unit {0}) ScheduleFault) (before after : World) (was played : Option Refused)
    (runs given : List Run) (known new : Option (List ℕ)) → runs ≡ given → PlaysOn before after was played (choices_of runs) known new
    → IfOk result (λ all. (told ≡ Ok tt) × (all ≡ played))
    → IfOk result (λ all. PlaysOn before after was all (choices_of given) known new)
told-plays result told before after was played runs given known new are on is = grind arith

-- what stops behind it where it told one
pub told-stops : (result : Result (Option Refused) RunFault) (told : Result (Unit {0}) ScheduleFault) (before after : World) (was played : Option Refused)
    (runs given : List Run) (known new : Option (List ℕ)) (failed : Bool) → runs ≡ given
    → PlaysOn before after was played (choices_of runs) known new → IfErr result (λ f. IsFaultOfReader f told)
    → IfErr result (λ f. StopsAt f told before was (choices_of given) known new failed)
told-stops result told before after was played runs given known new failed are on never = grind (arith, Part-whole)

-- what stops where choices can't be played on
pub played-stops : (result : RunFault) (f : PlayFault) (told : Result (Unit {0}) ScheduleFault) (before : World) (was : Option Refused) (runs given : List Run)
    (known new : Option (List ℕ)) (failed : Bool) → result ≡ played_fault f → was ≡ None → runs ≡ given
    → (f ≡ play.Memory → AppendsPartOf known new (lines_of before (choices_of runs))) → (f ≡ play.Write → IsTrue failed)
    → StopsAt result told before was (choices_of given) known new failed
played-stops result play.Memory told before was runs given known new failed of_play is are part write =
    subst (λ f. StopsAt f told before was (choices_of given) known new failed) (sym of_play)
    (subst (λ rs. WritesPartOn before was (choices_of rs) known new) are (writes_part-on before was (choices_of runs) known new is (part refl)))
played-stops result play.Write told before was runs given known new failed of_play is are part write = grind arith
