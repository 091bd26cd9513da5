use Rattle.workbench.proofs.Lives.{one_program}
use Rattle.workbench.proofs.program.a_file_is_one_program.Goals as goal

pub returns : goal.returns
returns c = one_program
