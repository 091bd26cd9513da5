use Rattle.std.proofs.Common.{◌≡◌, ◌++◌, drop}
use Rattle.tier_tree.specs.Stored.{phasers_of}
use Rattle.trace_text.specs.State.{numbered_texts, phaser_text}
use Rattle.trace_text.proofs.state.add_phasers.Given as goal

abbrev pub invariant-loop-number : goal.invariant-loop-number
invariant-loop-number l =
    let phasers = phasers_of l.forest in
    l.text.items ++ numbered_texts phaser_text l.number (drop l.number phasers)
    ≡ l.initial.text.items ++ numbered_texts phaser_text 0 phasers
