use Rattle.std.proofs.Common.{◌≡◌, ◌+◌, ◌*◌, ◌≤◌, ◌++◌, drop, flat_map, length}
use Rattle.trace_text.specs.State.{value_text}
use Rattle.trace_text.proofs.state.add_values.Given as goal

abbrev pub invariant-loop-value : goal.invariant-loop-value
invariant-loop-value l = record {
  text : l.text.items ++ flat_map value_text (drop l.value-index l.values)
      ≡ l.initial.text.items ++ flat_map value_text l.values;
  few : length (flat_map value_text l.values)
      ≤ 12 * l.value-index + length (flat_map value_text (drop l.value-index l.values));
}
