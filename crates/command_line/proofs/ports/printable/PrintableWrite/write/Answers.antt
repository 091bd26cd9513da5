use Rattle.command_line.proofs.ShownFront.{shown_front}
use Rattle.command_line.proofs.ports.printable.PrintableWrite.write.Goals as goal

pub returns-clause-terminal : goal.returns-clause-terminal
returns-clause-terminal g c = λ is.
    shown_front _ _ c.write-2.result c.args.bytes.now _ c.put_shown-count.result c.put_shown-count.ensures.shown
    c.write-2.ensures.bound c.write-2.ensures.bytes
