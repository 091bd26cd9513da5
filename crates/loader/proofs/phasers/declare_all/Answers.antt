use Rattle.std.proofs.Common.{◌≡◌, ◌<◌, length, get_or, None, sym, ap, ◌∙◌, arith}
use Rattle.loader.specs.{Declarations.no_phaser, Fault.phaser_fault, Fault.listed_phaser_fault}
use Rattle.loader.proofs.{Search.goes_on, Declaring.declared_more}
use Rattle.loader.proofs.phasers.declare_all.Goals as goal

pub loop-n-preserved : goal.loop-n-preserved
loop-n-preserved c =
    let all = c.args.phasers.now in
    let n = c.loop-n.n in
    let lt : n < length all = omega (arith, c.loop-n-test.true) in
    let none : listed_phaser_fault c.args.rows all n (get_or all n no_phaser) ≡ None =
    ap (λ forest. phaser_fault c.args.rows forest n (get_or all n no_phaser)) (sym c.loop-n.invariant.declared.shown)
    ∙ c.in_ok-declare_checked.ensures.none in
    record {
      so_far = goes_on (listed_phaser_fault c.args.rows all) all n no_phaser lt none c.loop-n.invariant.so_far;
      declared = declared_more n all c.loop-n.forest c.declare_checked.new.forest lt c.loop-n.invariant.declared
          c.in_ok-declare_checked.ensures.declared c.in_ok-declare_checked.ensures.many c.in_ok-declare_checked.ensures.fresh
          c.in_ok-declare_checked.ensures.ends c.in_ok-declare_checked.ensures.origin;
    }
