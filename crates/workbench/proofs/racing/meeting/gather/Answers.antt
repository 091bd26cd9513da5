use Rattle.std.proofs.Common.{◌≡◌, ◌∙◌, ◌++◌, ◌∷◌, [], All, ap, subst, sym, map}
use Rattle.std.proofs.lemmas.List.Elements.{All-head, All-push, All-rest}
use Rattle.std.specs.{Vec.Iter.into_iter_items, declared.thread.PromisedHandle.PromisedHandle}
use Rattle.shared_phaser.specs.declared.{history.Kept.Kept, history.Known.Known, phaser.Party.Party}
use Rattle.shared_phaser.specs.Known.{phaser_of}
use Rattle.workbench.specs.{declared.racing.meeting.Home.Home, Race.AreMeetings, Race.number_of}
use Rattle.workbench.proofs.Meetings.{joined_more, kept_of, met_in, moved_on}
use Rattle.workbench.proofs.racing.meeting.gather.Goals as goal

pub loop-handle-preserved : goal.loop-handle-preserved
loop-handle-preserved g c =
    let inv = c.loop-handle.invariant in
    let handle = c.in-Some.handle in
    let rest = into_iter_items c.next.new.self in
    let first : into_iter_items c.loop-handle.handle-iterator ≡ handle ∷ rest = c.in-Some.ensures.steps.0 in
    let before = c.loop-handle.first.known in
    let other = c.join-party.result.known in
    let after = c.join.new.first.known in
    let more : after.joined ≡ before.joined ++ kept_of other ∷ [] =
    joined_more before other after c.join.ensures.joined c.join-party.ensures.1.1.0 in
    record {
      number = ap (λ (k : Known). k.number) c.join.ensures.joined.is ∙ inv.number;
      phaser = c.join.ensures.phaser;
      splits = ap (λ (k : Known). k.splits) c.join.ensures.joined.is ∙ inv.splits;
      calls = ap (λ (k : Known). k.calls) c.join.ensures.joined.is ∙ inv.calls;
      running = All-rest (λ (h : PromisedHandle Party Home). phaser_of h.promise.caller.value ≡ c.args.phaser.now) handle rest _ first inv.running;
      numbers = moved_on (λ (k : Kept). k.number) before.joined after.joined (kept_of other) (number_of handle.promise.caller.value)
          _ _ _ more c.join-party.ensures.1.0
          (ap (map (λ (h : PromisedHandle Party Home). number_of h.promise.caller.value)) first) inv.numbers;
      met = λ rounds all each.
          let both = inv.met rounds all each in
          let left = subst (All (λ (h : PromisedHandle Party Home). h.promise.rounds ≡ rounds)) first both.0 in
          let here : handle.promise.rounds ≡ rounds = All-head (λ (h : PromisedHandle Party Home). h.promise.rounds ≡ rounds) handle rest left in (
            All-rest (λ (h : PromisedHandle Party Home). h.promise.rounds ≡ rounds) handle rest _ first both.0,
            subst (All (λ (k : Kept). AreMeetings k.number rounds k.calls)) (sym more)
                (All-push (λ (k : Kept). AreMeetings k.number rounds k.calls) before.joined (kept_of other) both.1
                (met_in (number_of handle.promise.caller.value) handle.promise.rounds rounds other c.join-party.ensures.1.0 here c.join-party.ensures.1.1.1)),
          );
    }
