use Rattle.std.proofs.Common.{refl}
use Rattle.debugger.specs.Reply.{stop_text}
use Rattle.debugger.proofs.session.Debugger.go_command.Goals as goal

pub returns-in-Err : goal.returns-in-Err
returns-in-Err g c = ((stop_text c.go-stop.result, (c.go-stop.result, c.go-stop.ensures, refl)), c.in-Err.ensures.failed)
