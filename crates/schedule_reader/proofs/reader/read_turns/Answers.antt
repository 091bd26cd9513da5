use Rattle.std.proofs.Common.{◌≡◌, ◌∙◌, ◌+◌, ◌-◌, ap, arith, drop, drop-drop, length, refl, sym}
use Rattle.schedule_reader.proofs.Turns.{spelled-turn, takes-turn, takes-nothing}
use Rattle.schedule_reader.proofs.reader.read_turns.Goals as goal

pub loop-thread-init : goal.loop-thread-init
loop-thread-init c =
    let rest = c.args.rest.now in
    let none : length rest - length rest ≡ 0 = omega arith in
    record {
      within = omega arith;
      left = ap (λ n. drop n rest) (sym none);
      takes = λ at. takes-nothing at (length rest - length rest) rest c.args.runs.now.items none;
      none = λ zero. refl;
      spelled = λ all. all;
      few = omega arith;
      room = omega arith;
    }

pub loop-thread-preserved : goal.loop-thread-preserved
loop-thread-preserved c =
    let turn = c.in-Some.ensures.turn in
    let rest = c.args.rest.now in
    let done = length rest - length c.loop-thread.left.now in
    let up : done + c.in-Some.count ≡ length rest - length c.bytes_from-left.result.now =
    omega (arith, c.loop-thread.invariant.within, c.bytes_from-left.ensures.length) in
    record {
      within = omega (arith, c.loop-thread.invariant.within, c.bytes_from-left.ensures.length);
      left = c.bytes_from-left.ensures.rest ∙ ap (drop c.in-Some.count) c.loop-thread.invariant.left ∙ drop-drop c.in-Some.count done rest
          ∙ ap (λ n. drop n rest) up;
      takes = λ at. takes-turn at done (length rest - length c.bytes_from-left.result.now) c.in-Some.thread c.in-Some.count rest c.loop-thread.left.now
          c.args.runs.now.items c.loop-thread.runs.items c.push.new.self.items c.turn_of.result c.loop-thread.invariant.left up
          (c.loop-thread.invariant.takes at) turn c.turn_of.ensures c.in-Ok.ensures.items;
      none = λ zero. absurd (omega (arith, zero, up, turn.counted));
      spelled = λ all. spelled-turn c.in-Some.thread c.loop-thread.runs.items c.push.new.self.items c.turn_of.result turn.small c.turn_of.ensures
          c.in-Ok.ensures.items (c.loop-thread.invariant.spelled all);
      few = omega (arith, c.loop-thread.invariant.few, c.in-Ok.ensures.len, turn.counted, turn.some, up);
      room = omega (arith, c.loop-thread.invariant.room, c.in-Ok.ensures.capacity);
    }
