use Rattle.std.proofs.Common.{◌∙◌, None, ap, refl}
use Rattle.std.specs.String.{string_bytes}
use Rattle.schedule_reader.specs.Schedule.{choices_of, finished_schedule}
use Rattle.thread_machine.specs.World.{world_of}
use Rattle.commands.specs.Outcomes.{Ended}
use Rattle.commands.proofs.ShownSchedules.{same_replay}
use Rattle.commands.proofs.runs.add_run.Goals as goal

pub returns-in-Ok-add-clause-added : goal.returns-in-Ok-add-clause-added
returns-in-Ok-add-clause-added c = λ first runs replay ending are.
    let schedule = string_bytes c.in_ok-schedule.schedule in
    let run : Ended = record { seed = None; schedule = schedule; ending = c.args.run.now.ending; state = c.in-Ok.state.text.items } in
    let choices = c.in_ok-schedule.ensures.choices ∙ ap (λ text. choices_of (finished_schedule text).runs) c.as_slice.ensures.value in
    let shown = same_replay first c.args.run.now.schedule.items schedule (world_of c.args.run.now.machine) c.in_ok-schedule.ensures.shown choices replay in
    (run, (record { world = world_of c.args.run.now.machine; seed = refl; replay = shown; ending = ending; state = c.in-Ok.ensures }, c.in-Ok-add.ensures runs are))
