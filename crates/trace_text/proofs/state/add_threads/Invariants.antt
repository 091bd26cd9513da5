use Rattle.std.proofs.Common.{◌≡◌, ◌++◌, All, drop, take}
use Rattle.trace_text.specs.{Brief.IsBrief, State.numbered_texts, State.thread_text}
use Rattle.trace_text.proofs.state.add_threads.Given as goal

abbrev pub invariant-loop-thread : goal.invariant-loop-thread
invariant-loop-thread l = record {
  text : let threads = l.machine.scene.threads in
      l.text.items ++ numbered_texts thread_text l.thread (drop l.thread threads)
      ≡ l.initial.text.items ++ numbered_texts thread_text 0 threads;
  brief : All IsBrief (take l.thread l.machine.scene.threads);
}
