use Rattle.std.proofs.Common.{subst, Option}
use Rattle.commands.specs.{Seeds.HasReportedSeeds, declared.seeds.Unlike.Unlike}
use Rattle.vuthgal_c.specs.Beyond.{IsProgramIn}
use Rattle.vuthgal_c.proofs.ProgramPlans.{reported_in_file, unreported_in_file}
use Rattle.vuthgal_c.proofs.planning.reported.Goals as goal

-- the program is that of the file's part before its line `.run`
pub returns-in-Ok-clause-reports : goal.returns-in-Ok-clause-reports
returns-in-Ok-clause-reports g c =
    let is = subst (λ f. IsProgramIn f c.in-Ok.program) c.parts_of.ensures.program c.in-Ok.ensures.program in
    record {
      done = reported_in_file (λ program. (unlike : Option Unlike) × HasReportedSeeds program c.args.steps.now c.args.seeds.now unlike
          (g.K.Sink.written c.args.output.now) (g.K.Sink.written c.push_report.new.output))
          c.push_report.result c.args.file.now c.in-Ok.program is c.push_report.ensures.done;
      refused = unreported_in_file c.push_report.result c.args.file.now c.args.steps.now c.args.seeds.now c.in-Ok.program is c.push_report.ensures.refused;
      unwritten = c.push_report.ensures.unwritten;
      read = λ e. absurd (c.push_report.ensures.other.0 e);
      write = c.push_report.ensures.write;
      spawn = c.push_report.ensures.other.1;
    }
