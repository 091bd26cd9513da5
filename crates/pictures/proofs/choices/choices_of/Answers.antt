use Rattle.std.specs.Prelude.{[], replicate}
use Rattle.schedule_reader.specs.declared.run.Run.{Run}
use Rattle.pictures.proofs.{Appended.none_left, Appended.one_more, Counts.room}
use Rattle.pictures.proofs.choices.choices_of.Goals as goal

pub add_run-requires : goal.add_run-requires
add_run-requires c =
    room c.args.runs.now c.loop-run.run-index _ c.loop-run.choices.items 2000 c.loop-run-test.true c.loop-run.invariant c.requires

pub loop-run-preserved : goal.loop-run-preserved
loop-run-preserved c =
    one_more (λ (run : Run). replicate run.times run.choice) c.args.runs.now c.loop-run.run-index _ c.loop-run.choices.items
    c.add_run.new.choices.items [] c.loop-run-test.true c.in_ok-add_run.ensures c.loop-run.invariant

pub returns : goal.returns
returns c =
    none_left (λ (run : Run). replicate run.times run.choice) c.args.runs.now c.loop-run.run-index c.loop-run.choices.items []
    c.loop-run-test.false c.loop-run.invariant
