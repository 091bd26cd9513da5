use Rattle.std.proofs.Common.{◌*◌, ◌≤◌, ℕ, List, length, sym, subst}
use Rattle.thread_machine.specs.World.{first_world, world_of}
use Rattle.thread_runner.specs.Recording.{Recording, recording_of}
use Rattle.thread_runner.proofs.Replays.{recorded_few}
use Rattle.thread_runner.proofs.journaled.Journaled.schedule.Goals as goal

pub returns-clause-few : goal.returns-clause-few
returns-clause-few c =
    let m = c.self.inside.machine in
    let first = first_world m.program m.limit in
    let text = c.self.inside.schedule.items in
    subst (λ (r : Recording). length c.as_slice.result.now ≤ 4 * length r.choices) c.self.view_is
    (subst (λ (t : List ℕ). length t ≤ 4 * length (recording_of first text).choices) (sym c.as_slice.ensures.value)
    (recorded_few first text (world_of m) c.self.invariant))
