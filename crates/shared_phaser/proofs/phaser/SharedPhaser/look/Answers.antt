use Rattle.std.proofs.Common.{◌≡◌, ℕ, rules, refl, ap, subst}
use Rattle.shared_phaser.specs.declared.history.{Call.TheVariants.Look, Answer.TheVariants.Saw, Known.Known}
use Rattle.shared_phaser.specs.Known.{Caller, MakesCall}
use Rattle.shared_phaser.proofs.{Plays.loads, Tries.looked}
use Rattle.shared_phaser.proofs.phaser.SharedPhaser.look.Goals as goal

pub load-found-requires : goal.load-found-requires
load-found-requires c = (search rules, search rules, loads _ _ _ _ Look c.party.invariant.0)

pub returns-clause-made : goal.returns-clause-made
returns-clause-made c =
    let made = looked Look _ _ _ _ c.load-found.ensures.2 refl in
    let same : c.load-found.result ≡ c.in-Some.word = search rules in
    let was : c.party.inside.seat.me.0.known ≡ c.args.party.now.known = ap (λ (p : Caller). p.known) c.party.view_is in
    subst (λ (z : Known × ℕ). MakesCall z.0 Look (Saw z.1) c.load-found.new.seat.me.0.known) (λ i. (was i, same i)) made
