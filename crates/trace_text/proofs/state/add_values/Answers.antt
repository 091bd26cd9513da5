use Rattle.std.proofs.Common.{rules, arith, ◌≡◌, ◌+◌, ◌≤◌, ◌++◌, drop, flat_map, get_or, length, pos}
use Rattle.std.proofs.lemmas.{Grind.common_steps, List.drop_all}
use Rattle.std.specs.Fmt.{signed_decimal}
use Rattle.trace_text.specs.State.{value_text}
use Rattle.trace_text.proofs.Traces.{all_written, flat_map-drop, one_text_more, one_value_more}
use Rattle.trace_text.proofs.state.add_values.Goals as goal

pub loop-value-preserved : goal.loop-value-preserved
loop-value-preserved c =
    let values = c.args.values.now in
    let i = c.loop-value.value-index in
    let value = get_or values i (pos 0) in
    let text = c.loop-value.text.items in
    let next = c.add_with_value.new.text.items in
    let more : next ≡ text ++ value_text value = search rules in
    let short : length (signed_decimal value) ≤ 11 = search rules in
    record {
      text = one_text_more text next c.args.text.now.items (value_text value) (flat_map value_text (drop i values))
          (flat_map value_text (drop (i + 1) values)) (flat_map value_text values) more
          (flat_map-drop value_text values i (pos 0) c.loop-value-test.true) c.loop-value.invariant.text;
      few = one_value_more values i (pos 0) c.loop-value-test.true short c.loop-value.invariant.few;
    }

pub returns : goal.returns
returns c = grind (arith, common_steps, drop_all, all_written)
