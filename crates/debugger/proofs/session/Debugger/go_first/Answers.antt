use Rattle.std.proofs.Common.{◌∙◌, ap, arith, take}
use Rattle.schedule_reader.specs.Schedule.{choices_of}
use Rattle.thread_machine.specs.World.{StoredWorld}
use Rattle.debugger.proofs.Goes.{goes_counts}
use Rattle.debugger.proofs.session.Debugger.go_first.Goals as goal

pub stop_of-requires : goal.stop_of-requires
stop_of-requires c =
    let old = c.choices-before.ensures.choices ∙ ap (λ (world : StoredWorld). world.choices) c.machine.ensures in
    let grown = goes_counts c.go_some-went.result c.args.self.now c.go_some-went.new.self (take c.args.most (choices_of c.args.runs.now)) c.go_some-went.ensures in
    omega (arith, old, grown)

pub returns : goal.returns
returns c =
    c.stop_of.ensures c.args.self.now (take c.args.most (choices_of c.args.runs.now))
    (c.choices-before.ensures.choices ∙ ap (λ (world : StoredWorld). world.choices) c.machine.ensures) c.go_some-went.ensures
