use Rattle.machine_scene.specs.Scene.{scene_of, thread_at}
use Rattle.trace_text.proofs.Traces.{one_entry_more}
use Rattle.trace_text.proofs.state.add_stack.Goals as goal

pub loop-number-preserved : goal.loop-number-preserved
loop-number-preserved c =
    one_entry_more (thread_at (scene_of c.args.machine.now.scene) c.args.thread).stack c.loop-number.number c.entry.result
    c.loop-number.text.items c.add_entry.new.text.items c.args.text.now.items c.entry.ensures c.in_ok-add_entry.ensures
    c.loop-number.invariant
