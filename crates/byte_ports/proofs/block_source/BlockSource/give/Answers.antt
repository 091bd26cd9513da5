use Rattle.std.proofs.Common.{◌≡◌, ◌∙◌, ◌+◌, ◌≤◌, ◌++◌, slice_index_or, slice_set, ap, arith, drop, length, sym, take}
use Rattle.byte_ports.proofs.Blocks.{first-given, parts-given}
use Rattle.byte_ports.proofs.block_source.BlockSource.give.Goals as goal

pub returns-clause-given : goal.returns-clause-given
returns-clause-given g c =
    let held = c.args.self.now.held in
    let whole = take c.self.inside.end c.self.inside.block.items in
    let is : held ≡ drop c.self.inside.next whole = sym (ap (λ b. b.held) c.self.view_is) in
    let same : length c.held-held.result.now ≡ length held = ap length c.held-held.ensures in
    let few : c.min-count.result ≤ length held = omega (arith, c.min-count.ensures, same) in
    parts-given c.min-count.result c.self.inside.next held whole c.copy_from_slice.new.self (drop c.min-count.result c.args.buffer.now)
    is few (c.copy_from_slice.ensures.after ∙ ap (take c.min-count.result) c.held-held.ensures)

pub returns-then-count-eq1-clause-given : goal.returns-then-count-eq1-clause-given
returns-then-count-eq1-clause-given g c =
    let held = c.args.self.now.held in
    let whole = take c.self.inside.end c.self.inside.block.items in
    let is : held ≡ drop c.self.inside.next whole = sym (ap (λ b. b.held) c.self.view_is) in
    let same : length c.held-held.result.now ≡ length held = ap length c.held-held.ensures in
    let one = c.if-count-eq1.true in
    first-given c.self.inside.next held whole c.args.buffer.now is (omega (arith, c.min-count.ensures, same, one))
    (omega (arith, c.min-count.ensures, one))
    ∙ ap (λ bytes. take 1 (slice_set c.args.buffer.now 0 (slice_index_or bytes 0 0)) ++ drop (c.self.inside.next + 1) whole)
    (sym c.held-held.ensures)
