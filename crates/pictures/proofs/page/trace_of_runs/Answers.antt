use Rattle.std.proofs.Common.{◌∙◌, [], ap, refl}
use Rattle.schedule_reader.specs.Schedule.{choices_of}
use Rattle.thread_machine.specs.World.{first_world}
use Rattle.pictures.specs.Missing.{missing_of}
use Rattle.pictures.proofs.Missings.{told-missing}
use Rattle.pictures.proofs.page.trace_of_runs.Goals as goal

pub returns-clause-missing : goal.returns-clause-missing
returns-clause-missing c =
    c.missing_of-missing.ensures ∙ ap missing_of c.in-Ok.ensures.traced.0.2
    ∙ told-missing (choices_of c.args.runs.now) (first_world c.args.program 1000000000) [] refl
