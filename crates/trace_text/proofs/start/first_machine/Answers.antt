use Rattle.std.proofs.Common.{rules, ◌≡◌, ◌∙◌, inl, Some, Err, ap, subst, sym, false}
use Rattle.loader.specs.Fault.{first_fault}
use Rattle.trace_text.specs.Start.{is_want_of_memory}
use Rattle.trace_text.specs.declared.start.StartFault.TheVariants as start
use Rattle.thread_machine.specs.World.{IsFirstOf}
use Rattle.thread_machine.proofs.Firsts.{is_first}
use Rattle.trace_text.proofs.Starting.{no_want, other_fault}
use Rattle.trace_text.proofs.start.first_machine.Goals as goal

pub returns-in-Err : goal.returns-in-Err
returns-in-Err c =
    let first : first_fault c.args.image ≡ Some c.in-Err.fault = search rules in
    record {
      machine = tt;
      load = λ fault is. let same : c.in-Err.fault ≡ fault = cc in first ∙ ap Some same;
      refused = λ fault is. inl (ap (λ told. Err (start.Load told)) (other_fault c.args.image c.in-Err.fault fault first is));
      wants = λ fault is. let same : c.in-Err.fault ≡ fault = cc in
          subst (λ told. is_want_of_memory told ≡ false) same (no_want c.args.image c.in-Err.fault first);
    }

pub returns-in-Ok-begun-clause-machine : goal.returns-in-Ok-begun-clause-machine
returns-in-Ok-begun-clause-machine c = (
  c.in-Ok.ensures.none,
  subst (IsFirstOf c.args.image 1000000000) (sym c.in-Ok-begun.ensures) (is_first c.args.image c.in-Ok.program 1000000000 c.in-Ok.ensures.loaded),
)
