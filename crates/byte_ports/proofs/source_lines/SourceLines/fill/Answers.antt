use Rattle.std.proofs.Common.{◌≡◌, ◌∙◌, ◌+◌, ◌-◌, ◌++◌, ◌≤◌, ap, length, take, drop, rules, arith, length-drop, length-take, length-take-le}
use Rattle.std.proofs.{Math.Seq.take-add, lemmas.List.with_items_is, lemmas.List.places}
use Rattle.std.specs.Vec.{with_items}
use Rattle.byte_ports.proofs.Pieces.{more-held}
use Rattle.byte_ports.proofs.source_lines.SourceLines.fill.Goals as goal

pub returns-clause-bytes : goal.returns-clause-bytes
returns-clause-bytes g c =
    let held = c.self.inside.end - c.self.inside.at in
    let block = c.pull_behind.new.block in
    let got = take c.in_ok-count.count (drop held block) in
    let first = with_items_is c.self.inside.block c.move_front.new.block (search (rules, places)) in
    let second = with_items_is (with_items c.self.inside.block c.move_front.new.block) block (search (rules, places)) in
    let front : take held block ≡ c.args.self.now.held =
    c.in_ok-count.ensures.front ∙ ap (take held) (c.as_mut_slice-2.ensures.value ∙ first) ∙ c.move_front.ensures.front
    ∙ ap (λ l. drop c.self.inside.at (take c.self.inside.end l)) c.as_mut_slice.ensures.value ∙ ap (λ lines. lines.held) c.self.view_is in
    more-held (g.S.Source.left c.args.source.now) (g.S.Source.left c.pull_behind.new.source) c.args.self.now.held got _
    c.in_ok-count.ensures.bytes
    (ap (take (held + c.in_ok-count.count)) second ∙ take-add held c.in_ok-count.count block ∙ ap (λ l. l ++ got) front)

pub returns-clause-got : goal.returns-clause-got
returns-clause-got g c =
    let held = c.self.inside.end - c.self.inside.at in
    let block = c.pull_behind.new.block in
    let got = take c.in_ok-count.count (drop held block) in
    let first = with_items_is c.self.inside.block c.move_front.new.block (search (rules, places)) in
    let second = with_items_is (with_items c.self.inside.block c.move_front.new.block) block (search (rules, places)) in
    let front : take held block ≡ c.args.self.now.held =
    c.in_ok-count.ensures.front ∙ ap (take held) (c.as_mut_slice-2.ensures.value ∙ first) ∙ c.move_front.ensures.front
    ∙ ap (λ l. drop c.self.inside.at (take c.self.inside.end l)) c.as_mut_slice.ensures.value ∙ ap (λ lines. lines.held) c.self.view_is in
    let room : length block ≡ 81920 =
    c.in_ok-count.ensures.length ∙ ap length (c.as_mut_slice-2.ensures.value ∙ first) ∙ c.move_front.ensures.length
    ∙ ap length c.as_mut_slice.ensures.value ∙ c.self.invariant.0 in
    let few : held ≤ 65536 =
    omega (arith, room, length-take held block, ap length front, c.requires, c.self.invariant) in (
      got,
      (
        ap (take (held + c.in_ok-count.count)) second ∙ take-add held c.in_ok-count.count block ∙ ap (λ l. l ++ got) front,
        length-take-le c.in_ok-count.count (drop held block) (omega (arith, few, room, length-drop held block, c.in_ok-count.ensures.few)),
        c.in_ok-count.ensures.few,
      ),
    )
