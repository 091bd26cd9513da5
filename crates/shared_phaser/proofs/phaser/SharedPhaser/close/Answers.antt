use Rattle.std.proofs.Common.{◌≡◌, ℕ, rules, ap, subst, ◌∙◌}
use Rattle.shared_phaser.specs.{declared.history.Known.Known, Known.Caller, Known.EndsAs}
use Rattle.shared_phaser.proofs.Parties.{ends}
use Rattle.shared_phaser.proofs.phaser.SharedPhaser.close.Goals as goal

pub returns : goal.returns
returns c =
    let known : c.first.inside.seat.me.0.known ≡ c.args.first.known = ap (λ (p : Caller). p.known) c.first.view_is in
    let same : c.word-bits.result ≡ c.in-Some.word = search rules in
    let first : c.first.inside.seat.me.0.known.number ≡ 0 = ap (λ (p : Caller). p.known.number) c.first.view_is ∙ c.requires.first in
    let ended = ends _ _ c.first.inside.seat.me.0 _ _ c.word-bits.result c.first.invariant.0 first c.close_with-closed.ensures.values.2 c.word-bits.ensures in
    subst (λ (z : Known × ℕ). EndsAs z.0 z.1) (λ i. (known i, same i)) ended
