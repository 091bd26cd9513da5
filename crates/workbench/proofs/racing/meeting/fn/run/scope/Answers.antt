use Rattle.std.proofs.Common.{◌≡◌, ◌∙◌, ◌∷◌, [], All, ap, arith, length, length-append, subst, sym, rules, map}
use Rattle.std.proofs.lemmas.List.Elements.{All-head, All-push, All-rest}
use Rattle.std.specs.{Vec.Iter.into_iter_items, declared.thread.PromisedHandle.PromisedHandle}
use Rattle.shared_phaser.specs.{declared.phaser.Party.Party, Known.Caller, Known.phaser_of}
use Rattle.workbench.specs.{declared.racing.meeting.Home.Home, Race.HasMet, Race.IsFresh, Race.number_of}
use Rattle.workbench.proofs.Meetings.{moved_on}
use Rattle.workbench.proofs.racing.meeting.fn.run.scope.Goals as goal

pub loop-caller-preserved : goal.loop-caller-preserved
loop-caller-preserved g c =
    let inv = c.loop-caller.invariant in
    let caller = c.in-Some.caller in
    let rest = into_iter_items c.next.new.self in
    let first : into_iter_items c.loop-caller.caller-iterator ≡ caller ∷ rest = c.in-Some.ensures.steps.0 in
    let fresh : IsFresh c.captures.phaser.now caller =
    All-head (IsFresh c.captures.phaser.now) caller rest (subst (All (IsFresh c.captures.phaser.now)) first inv.callers) in
    let given : c.in-Ok.handle.promise.caller.value ≡ caller = search rules in
    let rounds : c.in-Ok.handle.promise.rounds ≡ c.captures.rounds = search rules in
    let more = c.push_reserved.ensures.items in
    record {
      number = inv.number;
      phaser = inv.phaser;
      kept = inv.kept;
      callers = All-rest (IsFresh c.captures.phaser.now) caller rest _ first inv.callers;
      running = subst (All (λ (h : PromisedHandle Party Home). phaser_of h.promise.caller.value ≡ c.captures.phaser.now)) (sym more)
          (All-push (λ (h : PromisedHandle Party Home). phaser_of h.promise.caller.value ≡ c.captures.phaser.now)
          c.loop-caller.running.items c.in-Ok.handle inv.running (ap phaser_of given ∙ fresh.0));
      rounds = subst (All (λ (h : PromisedHandle Party Home). h.promise.rounds ≡ c.captures.rounds)) (sym more)
          (All-push (λ (h : PromisedHandle Party Home). h.promise.rounds ≡ c.captures.rounds)
          c.loop-caller.running.items c.in-Ok.handle inv.rounds rounds);
      numbers = moved_on (λ (h : PromisedHandle Party Home). number_of h.promise.caller.value) c.loop-caller.running.items c.push_reserved.new.self.items
          c.in-Ok.handle (number_of caller) _ _ _ more (ap number_of given) (ap (map number_of) first) inv.numbers;
      count = omega (arith, inv.count, ap length first, ap length more, length-append c.loop-caller.running.items (c.in-Ok.handle ∷ []));
      room = omega (arith, inv.room, c.push_reserved.ensures.capacity);
    }

pub spawn_with-requires-clause-keeps : goal.spawn_with-requires-clause-keeps
spawn_with-requires-clause-keeps g c = λ κs lives r met.
    subst (λ (given : Caller). HasMet given c.captures.rounds r) (sym c.of.ensures) met
