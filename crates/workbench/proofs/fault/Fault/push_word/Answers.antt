use Rattle.workbench.proofs.Lines.{pushed-after, same_word}
use Rattle.workbench.proofs.fault.Fault.push_word.Goals as goal

pub returns-in_ok-push_with_count-in-Asm-clause-bytes : goal.returns-in_ok-push_with_count-in-Asm-clause-bytes
returns-in_ok-push_with_count-in-Asm-clause-bytes g c =
    same_word c.push.result _ _ c.args.self _ c.in-Asm.is
    (pushed-after c.push.result _ _ _ _ _ c.in_ok-push_with_count-in-Asm.ensures.bytes c.push.ensures.bytes)

pub returns-in-Image-clause-bytes : goal.returns-in-Image-clause-bytes
returns-in-Image-clause-bytes g c = same_word c.push-in-Image.result _ _ c.args.self _ c.in-Image.is c.push-in-Image.ensures.bytes

pub returns-in-Load-clause-bytes : goal.returns-in-Load-clause-bytes
returns-in-Load-clause-bytes g c = same_word c.push-in-Load.result _ _ c.args.self _ c.in-Load.is c.push-in-Load.ensures.bytes

pub returns-in-Schedule-clause-bytes : goal.returns-in-Schedule-clause-bytes
returns-in-Schedule-clause-bytes g c = same_word c.push-in-Schedule.result _ _ c.args.self _ c.in-Schedule.is c.push-in-Schedule.ensures.bytes
