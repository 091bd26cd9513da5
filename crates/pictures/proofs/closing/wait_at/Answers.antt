use Rattle.std.proofs.Common.{arith}
use Rattle.machine_scene.specs.Scene.{scene_of}
use Rattle.pictures.proofs.Ends.{none_beyond}
use Rattle.pictures.proofs.closing.wait_at.Goals as goal

pub returns-then-from-barrier_count : goal.returns-then-from-barrier_count
returns-then-from-barrier_count c =
    none_beyond (scene_of c.args.machine.now.scene) c.args.barrier c.args.thread
    (omega (arith, c.requires, c.thread_count.ensures.count, c.thread_count.ensures.few))
    (omega (arith, c.if-from-barrier_count.true, c.from.ensures, c.barrier_count.ensures.count))
