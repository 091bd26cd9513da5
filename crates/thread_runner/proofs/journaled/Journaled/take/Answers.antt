use Rattle.std.proofs.Common.{◌≡◌, ◌∙◌, ap, arith, rules, sym, subst}
use Rattle.thread_machine.specs.{World.World, World.world_of, World.first_world}
use Rattle.thread_machine.specs.Step.{Played, played}
use Rattle.thread_runner.specs.{Recording.recording_of, Recording.recorded_world, Recording.with_choice, Turns.IsDue}
use Rattle.thread_runner.proofs.Choosing.{due_is_ready}
use Rattle.thread_runner.proofs.Replays.{recorded_more, replay_more, same_first}
use Rattle.thread_runner.proofs.journaled.Journaled.take.Goals as goal

pub invariant_of-self-in-Ok : goal.invariant_of-self-in-Ok
invariant_of-self-in-Ok c =
    let m = c.self.inside.machine in
    let after = c.step.new.self in
    let old = c.self.inside.schedule.items in
    let first = first_world m.program m.limit in
    let here : recorded_world c.args.self.now ≡ world_of m = ap recorded_world (sym c.self.view_is) ∙ c.self.invariant.replay.replay.leads in
    let due : IsDue (world_of m) c.args.choice = subst (λ (w : World). IsDue w c.args.choice) here c.requires.due in
    let ready = due_is_ready (world_of m) c.args.choice due in
    let is : world_of after ≡ (played (world_of m) c.args.choice).world = ap (λ (p : Played). p.world) c.in-Ok.ensures.played in
    let replay = replay_more (recording_of first old) c.args.choice (world_of m) (world_of after) c.self.invariant.replay.replay ready
    c.in-Ok.ensures.accepted (search (rules, arith)) is c.step.ensures.threads due in
    let noted = c.push_choice.ensures (recording_of first old).choices (c.reserve.ensures.items ∙ c.self.invariant.text_is) in
    (recorded_more first (first_world after.program after.limit) old c.push_choice.new.text.items c.args.choice (world_of m) (world_of after)
    c.self.invariant (omega (arith, c.requires.thread, c.has_few_threads.ensures.few))
    (same_first (world_of m) (world_of after) c.args.choice ready is) noted replay).0

pub returns-in-Ok-clause-recorded : goal.returns-in-Ok-clause-recorded
returns-in-Ok-clause-recorded c =
    let m = c.self.inside.machine in
    let after = c.step.new.self in
    let old = c.self.inside.schedule.items in
    let first = first_world m.program m.limit in
    let here : recorded_world c.args.self.now ≡ world_of m = ap recorded_world (sym c.self.view_is) ∙ c.self.invariant.replay.replay.leads in
    let due : IsDue (world_of m) c.args.choice = subst (λ (w : World). IsDue w c.args.choice) here c.requires.due in
    let ready = due_is_ready (world_of m) c.args.choice due in
    let is : world_of after ≡ (played (world_of m) c.args.choice).world = ap (λ (p : Played). p.world) c.in-Ok.ensures.played in
    let replay = replay_more (recording_of first old) c.args.choice (world_of m) (world_of after) c.self.invariant.replay.replay ready
    c.in-Ok.ensures.accepted (search (rules, arith)) is c.step.ensures.threads due in
    let noted = c.push_choice.ensures (recording_of first old).choices (c.reserve.ensures.items ∙ c.self.invariant.text_is) in
    (recorded_more first (first_world after.program after.limit) old c.push_choice.new.text.items c.args.choice (world_of m) (world_of after)
    c.self.invariant (omega (arith, c.requires.thread, c.has_few_threads.ensures.few))
    (same_first (world_of m) (world_of after) c.args.choice ready is) noted replay).1
    ∙ ap (with_choice c.args.choice) c.self.view_is

pub returns-in-Ok-clause-played : goal.returns-in-Ok-clause-played
returns-in-Ok-clause-played c =
    let m = c.self.inside.machine in
    let here : recorded_world c.args.self.now ≡ world_of m = ap recorded_world (sym c.self.view_is) ∙ c.self.invariant.replay.replay.leads in
    let recorded = invariant_of-self-in-Ok c in
    ap (λ w. record { world = w; event = c.in-Ok.event }) recorded.replay.replay.leads
    ∙ c.in-Ok.ensures.played ∙ ap (λ w. played w c.args.choice) (sym here)
