use Rattle.std.proofs.Common.{◌≡◌, ◌+◌, ◌∙◌, ◌++◌, ◌∷◌, [], All, ap, subst, sym}
use Rattle.std.proofs.lemmas.List.Elements.{All-push}
use Rattle.shared_phaser.specs.Known.{Caller, phaser_of}
use Rattle.workbench.specs.Race.{IsFresh}
use Rattle.workbench.proofs.Meetings.{numbered}
use Rattle.workbench.proofs.racing.meeting.callers.Goals as goal

pub loop-preserved : goal.loop-preserved
loop-preserved c =
    let inv = c.loop.invariant in
    let split = c.split.ensures.first in
    let given = c.split.ensures.given in
    let fresh : IsFresh c.args.phaser.now c.split.result =
    (ap phaser_of given ∙ inv.fresh.0, (ap (λ (p : Caller). p.known.calls) given, ap (λ (p : Caller). p.known.joined) given)) in
    let more : c.push.new.self.items ≡ c.loop.callers.items ++ c.split.result ∷ [] = c.in_ok-push.ensures.items in
    record {
      number = ap (λ (p : Caller). p.known.number) split ∙ inv.number;
      splits = ap (λ (p : Caller). p.known.splits) split ∙ ap (λ n. n + 1) inv.splits;
      fresh = (
        ap phaser_of split ∙ inv.fresh.0,
        (
          ap (λ (p : Caller). p.known.calls) split ∙ inv.fresh.1.0,
          ap (λ (p : Caller). p.known.joined) split ∙ inv.fresh.1.1,
        ),
      );
      callers = subst (All (IsFresh c.args.phaser.now)) (sym more)
          (All-push (IsFresh c.args.phaser.now) c.loop.callers.items c.split.result inv.callers fresh);
      numbers = numbered c.loop.callers.items c.push.new.self.items c.split.result c.loop.counter more inv.numbers
          (ap (λ (p : Caller). p.known.number) given ∙ ap (λ n. n + 1) inv.splits);
    }
