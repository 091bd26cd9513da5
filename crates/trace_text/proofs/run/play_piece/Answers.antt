use Rattle.std.proofs.Common.{Option, Result, Ok, Err, ap, refl}
use Rattle.schedule_reader.specs.Schedule.{choices_of}
use Rattle.thread_machine.specs.World.{world_of}
use Rattle.trace_text.specs.declared.play.{PlayFault.PlayFault, Refused.Refused}
use Rattle.trace_text.proofs.Playing.{none-so, played-stops, plays-on, refused-on, told-plays, told-stops}
use Rattle.trace_text.proofs.run.play_piece.Goals as goal

pub returns-then-is_some-clause-plays : goal.returns-then-is_some-clause-plays
returns-then-is_some-clause-plays g c =
    told-plays c.read_or_refused.result c.args.told _ _ c.args.refused c.args.refused c.args.runs.now.items _ _ _ refl
    (refused-on (world_of c.args.machine.now) c.args.refused c.is_some.result (choices_of c.args.runs.now.items) _ c.is_some.ensures c.if-is_some.true) c.read_or_refused.ensures.ok

pub returns-then-is_some-clause-stops : goal.returns-then-is_some-clause-stops
returns-then-is_some-clause-stops g c =
    told-stops c.read_or_refused.result c.args.told _ _ c.args.refused c.args.refused c.args.runs.now.items _ _ _ _ refl
    (refused-on (world_of c.args.machine.now) c.args.refused c.is_some.result (choices_of c.args.runs.now.items) _ c.is_some.ensures c.if-is_some.true) c.read_or_refused.ensures.err

pub returns-in-Ok-clause-plays : goal.returns-in-Ok-clause-plays
returns-in-Ok-clause-plays g c =
    let played : Result (Option Refused) PlayFault = Ok c.in-Ok.refused in
    told-plays c.read_or_refused-in-Ok.result c.args.told _ _ c.args.refused c.in-Ok.refused c.as_slice.result.now _ _ _ c.as_slice.ensures.value
    (plays-on played _ _ _ _ _ _ (none-so c.args.refused _ c.is_some.ensures c.if-is_some.false) c.in-Ok.ensures.plays) c.read_or_refused-in-Ok.ensures.ok

pub returns-in-Ok-clause-stops : goal.returns-in-Ok-clause-stops
returns-in-Ok-clause-stops g c =
    let played : Result (Option Refused) PlayFault = Ok c.in-Ok.refused in
    told-stops c.read_or_refused-in-Ok.result c.args.told _ _ c.args.refused c.in-Ok.refused c.as_slice.result.now _ _ _ _ c.as_slice.ensures.value
    (plays-on played _ _ _ _ _ _ (none-so c.args.refused _ c.is_some.ensures c.if-is_some.false) c.in-Ok.ensures.plays) c.read_or_refused-in-Ok.ensures.err

pub returns-in-Err-clause-stops : goal.returns-in-Err-clause-stops
returns-in-Err-clause-stops g c =
    played-stops c.of_play.result c.in-Err.fault c.args.told _ c.args.refused c.as_slice.result.now _ _ _ _ c.of_play.ensures
    (none-so c.args.refused _ c.is_some.ensures c.if-is_some.false)
    c.as_slice.ensures.value (λ is. c.in-Err.ensures.memory (ap Err is)) (λ is. c.in-Err.ensures.write (ap Err is))
