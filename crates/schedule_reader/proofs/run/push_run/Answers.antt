use Rattle.std.proofs.Common.{◌∙◌, ◌++◌, ◌∷◌, [], List, ap, sym, subst, append_assoc, replicate, append-nil}
use Rattle.std.proofs.lemmas.List.{replicate-append-replicate}
use Rattle.thread_machine.specs.declared.choice.Choice.{Choice}
use Rattle.schedule_reader.specs.{declared.run.Run.Run, Joined.AreJoined, Schedule.choices_of}
use Rattle.schedule_reader.proofs.run.push_run.Goals as goal

pub loop-done-init : goal.loop-done-init
loop-done-init c = record {
  choices = sym (append-nil (choices_of c.args.runs.now.items));
  runs = c.requires.runs;
  joined = c.requires.joined;
}

pub loop-done-preserved : goal.loop-done-preserved
loop-done-preserved c =
    let start = choices_of c.args.runs.now.items in
    let choice = c.args.run.choice in
    let so = c.loop-done.invariant in
    record {
      choices = c.push_joined.ensures.choices ∙ ap (λ (runs : List Run). choices_of runs ++ choice ∷ []) c.reserve.ensures.items
          ∙ ap (λ (choices : List Choice). choices ++ choice ∷ []) so.choices
          ∙ append_assoc start (replicate c.loop-done._done choice) (choice ∷ [])
          ∙ ap (λ (choices : List Choice). start ++ choices) (replicate-append-replicate c.loop-done._done 1 choice);
      runs = c.push_joined.ensures.runs;
      joined = c.push_joined.ensures.joined (subst AreJoined (sym c.reserve.ensures.items) so.joined);
    }
