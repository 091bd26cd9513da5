use Rattle.std.proofs.Common.{◌≡◌, ◌∙◌, ◌+◌, ◌-◌, ◌++◌, List, ap, append_assoc, arith, replicate}
use Rattle.std.proofs.lemmas.List.{replicate-append-replicate}
use Rattle.schedule_reader.specs.Schedule.{choices_of}
use Rattle.thread_machine.specs.declared.choice.Choice.{Choice}
use Rattle.debugger.proofs.played.Played.push.Goals as goal

pub loop-left-preserved : goal.loop-left-preserved
loop-left-preserved c =
    let choice = c.args.run.choice in
    let old = choices_of c.args.self.now in
    let some = c.in_ok-left.field-0 in
    let done = c.args.run.times - c.loop-left.left in
    let more : done + some ≡ c.args.run.times - (c.loop-left.left - some) = omega (arith, c.loop-left.invariant.left, c.in_ok-left.ensures.some.1) in
    record {
      left = omega (arith, c.loop-left.invariant.left);
      choices = c.in_ok-left.ensures.choices
          ∙ ap (λ (choices : List Choice). choices ++ replicate some choice) c.loop-left.invariant.choices
          ∙ append_assoc old (replicate done choice) (replicate some choice)
          ∙ ap (λ (choices : List Choice). old ++ choices) (replicate-append-replicate done some choice)
          ∙ ap (λ n. old ++ replicate n choice) more;
      runs = λ thread are. c.push_some.ensures.runs thread (c.loop-left.invariant.runs thread are);
    }
