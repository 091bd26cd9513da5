use Rattle.std.proofs.Common.{refl}
use Rattle.thread_machine.specs.Stepped.{kept_of}
use Rattle.thread_machine.proofs.Steps.{step_is}
use Rattle.thread_machine.proofs.machine.Machine.step.Goals as goal

pub returns : goal.returns
returns c = step_is c.play.result c.args.self.now c.play.new.self c.args.choice (kept_of c.args.choice c.args.self.now) c.is_sound.ensures c.play.ensures (λ there. refl)
