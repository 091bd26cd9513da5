use Rattle.std.proofs.Common.{rules, ◌≡◌, ◌∙◌, inl, Some, Err, ap, subst, false}
use Rattle.loader.specs.Fault.{first_fault}
use Rattle.pictures.specs.declared.page.PageFault.TheVariants as none
use Rattle.trace_text.specs.Start.{is_want_of_memory}
use Rattle.trace_text.proofs.Starting.{no_want, other_fault}
use Rattle.pictures.proofs.page.loaded.Goals as goal

pub returns-in-Err : goal.returns-in-Err
returns-in-Err c =
    let first : first_fault c.args.image ≡ Some c.in-Err.fault = search rules in
    record {
      program = tt;
      none = tt;
      load = λ fault is. let same : c.in-Err.fault ≡ fault = cc in (
        first ∙ ap Some same,
        subst (λ told. is_want_of_memory told ≡ false) same (no_want c.args.image c.in-Err.fault first),
      );
      refused = λ fault is. inl (ap (λ told. Err (none.Load told)) (other_fault c.args.image c.in-Err.fault fault first is));
      others = search rules;
    }
