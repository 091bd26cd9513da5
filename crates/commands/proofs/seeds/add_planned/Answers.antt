use Rattle.std.proofs.Common.{◌∙◌, Some, ap, refl}
use Rattle.std.specs.String.{string_bytes}
use Rattle.schedule_reader.specs.Text.{schedule_text}
use Rattle.commands.specs.Outcomes.{Ended}
use Rattle.commands.proofs.seeds.add_planned.Goals as goal

pub returns : goal.returns
returns c = λ runs are.
    let run : Ended = record { seed = Some c.args.seed; schedule = string_bytes c.in_ok-schedule.schedule; ending = c.ending_of-ending.result; state = c.in_ok-state.state.text.items } in (
      run,
      (
        (refl, c.in_ok-schedule.ensures.text ∙ ap schedule_text c.as_slice.ensures.value, c.ending_of-ending.ensures, c.in_ok-state.ensures),
        c.in_ok-add.ensures runs are,
        c.in_ok-unlike.ensures run refl refl refl,
      ),
    )
