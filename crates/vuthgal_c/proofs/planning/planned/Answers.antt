use Rattle.std.proofs.Common.{subst}
use Rattle.vuthgal_c.specs.Beyond.{HasPlannedBy, IsProgramIn}
use Rattle.vuthgal_c.proofs.ProgramPlans.{planned_in_file, refused_in_file}
use Rattle.vuthgal_c.proofs.planning.planned.Goals as goal

-- the program is that of the file's part before its line `.run`
pub returns-in-Ok-clause-plans : goal.returns-in-Ok-clause-plans
returns-in-Ok-clause-plans g c =
    let is = subst (λ f. IsProgramIn f c.in-Ok.program) c.parts_of.ensures.program c.in-Ok.ensures.program in
    record {
      done = planned_in_file (λ stopped program. HasPlannedBy c.args.has_names stopped program c.args.most c.args.steps.now
          (g.K.Sink.written c.args.output.now) (g.K.Sink.written c.push_plan.new.output))
          c.push_plan.result c.args.file.now c.in-Ok.program is c.push_plan.ensures.done;
      refused = refused_in_file c.push_plan.result c.args.file.now c.args.steps.now c.in-Ok.program is c.push_plan.ensures.refused;
      unwritten = c.push_plan.ensures.unwritten;
      read = λ e. absurd (c.push_plan.ensures.other.0 e);
      write = c.push_plan.ensures.write;
      spawn = c.push_plan.ensures.other.1;
    }
