use Rattle.thread_machine.proofs.SafeEnds.{no_early_end_of}
use Rattle.thread_machine.proofs.law.no_phase_of_an_image_ends_early.Goals as goal

pub returns : goal.returns
returns c = no_early_end_of
