use Rattle.std.proofs.Common.{◌∙◌, inl, inr, refl, rules, subst, Some, false}
use Rattle.assembler.specs.Meaning.{StandsFor}
use Rattle.workbench.specs.declared.fault.Fault.TheVariants as fault
use Rattle.workbench.specs.{Outcome.Plays, ProgramFile.IsNoTextFor}
use Rattle.workbench.proofs.both.both.Goals as goal

pub returns-in-Ok : goal.returns-in-Ok
returns-in-Ok g c = inl (
  c.in-Ok.image,
  (
    Some c.run.new.schedule,
    (
      subst (λ program. StandsFor program c.in-Ok.image) c.split_at_run.ensures.text c.in-Ok.ensures.found,
      subst (λ given. Plays c.in-Ok.image c.run.result (Some given) (Some c.run.new.schedule) false (g.K.Sink.written c.args.output.now)
          (g.K.Sink.written c.run.new.output) (g.K.Sink.has_failed c.run.new.output))
          (c.new-schedule.ensures ∙ c.split_at_run.ensures.schedule) c.run.ensures,
    ),
  ),
)

pub returns-in-Err : goal.returns-in-Err
returns-in-Err g c =
    let none : IsNoTextFor (fault.Asm c.in-Err.fault) c.split_at_run.result.0.now = search rules in
    inr (subst (IsNoTextFor (fault.Asm c.in-Err.fault)) c.split_at_run.ensures.text none, refl)
