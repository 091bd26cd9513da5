use Rattle.std.proofs.Common.{◌∙◌, sym}
use Rattle.workbench.proofs.Meetings.{met_more, met_once}
use Rattle.workbench.proofs.racing.meeting.work.Goals as goal

pub loop-preserved : goal.loop-preserved
loop-preserved g c =
    met_more c.args.party c.loop.party c.arrive_and_await_advance.new.party c.loop.counter c.loop.invariant
    (c.arrive_and_await_advance.ensures.phaser ∙ sym (c.loop.invariant.0 ∙ c.requires.0))
    (met_once c.arrive_and_await_advance.result c.loop.party.known c.arrive_and_await_advance.new.party.known
    c.arrive_and_await_advance.ensures.made c.arrive_and_await_advance.ensures.refused)
