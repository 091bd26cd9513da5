use Rattle.std.proofs.Common.{refl}
use Rattle.std.proofs.lemmas.List.{drop_more}
use Rattle.headline.proofs.Backs.{leaves, one_more, walks, whatever}
use Rattle.headline.proofs.back.steps.Goals as goal

pub loop-choice-preserved : goal.loop-choice-preserved
loop-choice-preserved c =
    let step = c.in_ok-event.ensures in
    let next = drop_more c.args.choices.now c.loop-choice.choice-index _ c.loop-choice-test.true in (
      one_more c.args.debugger.now c.loop-choice.debugger c.step.new.self c.args.choices.now _ _ _ c.in_ok-event.event _ _
          next step.played step.accepted step.session c.in-Ok.ensures.items c.loop-choice.invariant.0,
      walks c.args.debugger.now c.loop-choice.debugger c.step.new.self c.args.choices.now _ _ _ c.in_ok-event.event
          next step.played step.accepted step.session c.loop-choice.invariant.1,
    )

pub returns-in_err-event-clause-err : goal.returns-in_err-event-clause-err
returns-in_err-event-clause-err c =
    whatever _ c.from_residual.result
    (leaves c.args.debugger.now c.loop-choice.debugger _ c.args.choices.now _ c.loop-choice.invariant.1 c.in_err-event.ensures.err)

pub returns-in-Err-clause-err : goal.returns-in-Err-clause-err
returns-in-Err-clause-err c =
    let step = c.in_ok-event.ensures in
    let next = drop_more c.args.choices.now c.loop-choice.choice-index _ c.loop-choice-test.true in
    leaves c.args.debugger.now c.step.new.self _ c.args.choices.now _
    (walks c.args.debugger.now c.loop-choice.debugger c.step.new.self c.args.choices.now _ _ _ c.in_ok-event.event
    next step.played step.accepted step.session c.loop-choice.invariant.1) refl
