use Rattle.std.proofs.Common.{rules, ◌≡◌, ◌+◌, ◌<◌, ◌++◌, All, arith, drop, get_or, length, subst, take_all}
use Rattle.std.proofs.lemmas.List.Elements.{All-more}
use Rattle.machine_scene.specs.Scene.{no_thread}
use Rattle.trace_text.specs.{Brief.IsBrief, State.numbered_texts, State.thread_text}
use Rattle.trace_text.proofs.Traces.{numbered_texts-drop, one_text_more}
use Rattle.trace_text.proofs.state.add_threads.Goals as goal

pub loop-thread-preserved : goal.loop-thread-preserved
loop-thread-preserved c =
    let threads = c.args.machine.now.scene.threads in
    let i = c.loop-thread.thread in
    let thread = get_or threads i no_thread in
    let text = c.loop-thread.text.items in
    let next = c.add_thread.new.text.items in
    let there : i < length threads = omega (arith, c.loop-thread-test.true, c.thread_count-thread-end.ensures.count) in
    let more : next ≡ text ++ thread_text i thread = search rules in
    let brief : IsBrief thread = search rules in
    record {
      text = one_text_more text next c.args.text.now.items (thread_text i thread) (numbered_texts thread_text i (drop i threads))
          (numbered_texts thread_text (i + 1) (drop (i + 1) threads)) (numbered_texts thread_text 0 threads) more
          (numbered_texts-drop thread_text threads i no_thread there) c.loop-thread.invariant.text;
      brief = All-more IsBrief threads i no_thread there c.loop-thread.invariant.brief brief;
    }

pub returns-clause-brief : goal.returns-clause-brief
returns-clause-brief c =
    let threads = c.args.machine.now.scene.threads in
    subst (All IsBrief)
    (take_all c.loop-thread.thread threads (omega (arith, c.loop-thread-test.false, c.thread_count-thread-end.ensures.count)))
    c.loop-thread.invariant.brief
