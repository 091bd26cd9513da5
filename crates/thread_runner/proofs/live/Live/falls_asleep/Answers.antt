use Rattle.std.proofs.Common.{◌∙◌, ap}
use Rattle.thread_runner.specs.{Recording.Recording, Recording.recorded_world, Waiting.some_wakes}
use Rattle.thread_runner.proofs.Sleeping.{still_none_wakes}
use Rattle.thread_runner.proofs.live.Live.falls_asleep.Goals as goal

pub invariant_of-self : goal.invariant_of-self
invariant_of-self g c =
    let old = c.args.self.now.state in
    let new = c.falls_asleep.new.self in
    record {
      begins = ap (λ (journaled : Recording). journaled.first) c.falls_asleep.ensures.journaled ∙ c.args.self.now.begins;
      woken = ap (λ (journaled : Recording). some_wakes new.broken (recorded_world journaled) new.sleepers) c.falls_asleep.ensures.journaled
          ∙ ap (λ broken. some_wakes broken (recorded_world old.journaled) new.sleepers) c.falls_asleep.ensures.broken
          ∙ still_none_wakes old.broken (recorded_world old.journaled) c.args.thread old.sleepers new.sleepers c.falls_asleep.result
          c.none_wakes.ensures c.falls_asleep.ensures.sleepers c.falls_asleep.ensures.waits;
    }
