use Rattle.loader.proofs.Whole.{whole}
use Rattle.loader.proofs.loaded.loading.load.Goals as goal

pub invariant_of-result : goal.invariant_of-result
invariant_of-result c =
    rw (c.into_vec.ensures.rows, c.into_vec-2.ensures.threads, c.in_ok-phasers.ensures.barriers, c.in_ok-routines.ensures.routines, c.in_ok-routines.ensures.actions)
    (whole c.args.image c.in_ok-phasers.phasers c.into_vec.ensures.fits c.into_vec-2.ensures.fits
    c.in_ok-phasers.ensures.few
    c.in_ok-phasers.ensures.none c.in_ok-phasers.ensures.phasers)
