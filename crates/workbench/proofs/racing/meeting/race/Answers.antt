use Rattle.std.proofs.Common.{inr, ◌≡◌, ◌∙◌, ◌++◌, [], List, All, ap, subst, sym, rules, map}
use Rattle.std.proofs.lemmas.{List.Elements.All-nil, Result.IfErr-weaker, Result.IfOk-weaker}
use Rattle.std.specs.declared.thread.PromisedHandle.{PromisedHandle}
use Rattle.shared_phaser.specs.{declared.history.Kept.Kept, declared.phaser.Party.Party, Known.Caller}
use Rattle.workbench.specs.{declared.racing.meeting.Home.Home, Race.AreMeetings, Race.number_of, Race.opening_of}
use Rattle.workbench.proofs.Meetings.{HasGathered, final}
use Rattle.workbench.proofs.racing.meeting.race.Goals as goal

pub returns-clause-word : goal.returns-clause-word
returns-clause-word g c = IfOk-weaker c.last_word.result _ _ (λ word is.
    let whole = is.0 in
    let kept = c.run-first.ensures.kept whole in
    let none : c.run-first.result.0.known.joined ≡ [] = ap (λ (p : Caller). p.known.joined) kept ∙ c.in_ok-callers.ensures.first.1.1 in
    let opening : c.gather.new.first.known.opening ≡ opening_of c.args.parties = search rules in
    let gathered : HasGathered c.args.parties c.args.rounds c.gather.new.first.known = record {
      number = c.gather.ensures.first;
      splits = c.gather.ensures.splits ∙ ap (λ (p : Caller). p.known.splits) kept ∙ c.in_ok-callers.ensures.splits;
      calls = c.gather.ensures.calls ∙ ap (λ (p : Caller). p.known.calls) kept ∙ c.in_ok-callers.ensures.first.1.0;
      numbers = c.gather.ensures.numbers
          ∙ ap (λ (js : List Kept). map (λ (k : Kept). k.number) js
          ++ map (λ (h : PromisedHandle Party Home). number_of h.promise.caller.value) c.run-first.result.1.items) none
          ∙ c.run-first.ensures.numbers whole ∙ c.in_ok-callers.ensures.numbers;
      met = c.gather.ensures.met c.args.rounds c.run-first.ensures.rounds
          (subst (All (λ (k : Kept). AreMeetings k.number c.args.rounds k.calls)) (sym none)
          (All-nil (λ (k : Kept). AreMeetings k.number c.args.rounds k.calls)));
    } in
    final c.args.parties c.args.rounds word c.gather.new.first.known opening gathered is.1) c.last_word.ensures.word

pub returns-clause-fault : goal.returns-clause-fault
returns-clause-fault g c = IfErr-weaker c.last_word.result _ _ (λ fault is. inr is.1) c.last_word.ensures.spawn
