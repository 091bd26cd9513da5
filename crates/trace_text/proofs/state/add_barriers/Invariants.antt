use Rattle.std.proofs.Common.{◌≡◌, ◌++◌, drop}
use Rattle.trace_text.specs.State.{numbered_texts, barrier_text}
use Rattle.trace_text.proofs.state.add_barriers.Given as goal

abbrev pub invariant-loop-number : goal.invariant-loop-number
invariant-loop-number l =
    let barriers = l.machine.scene.barriers in
    l.text.items ++ numbered_texts barrier_text l.number (drop l.number barriers)
    ≡ l.initial.text.items ++ numbered_texts barrier_text 0 barriers
