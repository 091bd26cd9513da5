use Rattle.std.proofs.Common.{◌∙◌, ◌++◌, ◌∷◌, [], ap, append-nil, append_assoc, refl, sym}
use Rattle.thread_runner.specs.{Recording.Recording, Recording.recorded_world, Turns.choice_in}
use Rattle.thread_runner.proofs.Replays.{kept_more}
use Rattle.thread_runner.proofs.runner.play_on.Goals as goal

pub loop-ending-init : goal.loop-ending-init
loop-ending-init c = (refl, ([], sym (append-nil _)))

pub loop-ending-preserved : goal.loop-ending-preserved
loop-ending-preserved c =
    let (first, (more, before)) = c.loop-ending.invariant in
    let (t, (next, is)) = c.in-Ok.ensures.recorded in
    let last = choice_in (recorded_world c.loop-ending.journaled) t ∷ [] in (
      c.take_next.ensures.first ∙ first,
      (
        more ++ last,
        ap (λ (r : Recording). r.choices) is ∙ ap (λ l. l ++ last) before ∙ append_assoc _ more last,
      ),
    )

pub returns-in-Err-clause-kept : goal.returns-in-Err-clause-kept
returns-in-Err-clause-kept c =
    let (first, (more, before)) = c.loop-ending.invariant in
    kept_more c.args.journaled c.take_next.new.self more (ap (λ (r : Recording). r.choices) c.in-Err.ensures.err ∙ before) c.out_of_memory.result
    c.out_of_memory.ensures.kept
