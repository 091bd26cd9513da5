use Rattle.std.proofs.Common.{◌≡◌, ◌∙◌, ◌+◌, ◌-◌, ◌≤◌, ◌++◌, List, ℕ, length, drop, set, ap, arith, to_z-of_z, unsigned_abs, length-drop, length-set}
use Rattle.std.proofs.lemmas.{Grind.common_steps, Fmt.length-decimal-le}
use Rattle.std.specs.Fmt.{decimal}
use Rattle.trace_text.proofs.LineEnds.{room_for_value, longer_by_count, sign_before}
use Rattle.trace_text.proofs.line_end.LineEnd.put_value.Goals as goal

-- an i32 without its sign has at most ten digits
short : (n m : ℕ) → n ≡ m → m ≤ 2147483648 → length (decimal n) ≤ 10
short n m same few = length-decimal-le 10 n (omega arith) (omega (arith, same, few)) (omega (arith, same, few))

-- one byte more before a number
one_more : (bytes : List ℕ) (at start d line : ℕ) → length bytes ≡ 192 → at + d ≡ start → d ≤ 10 → 1 ≤ at → start ≤ 192
    → line ≡ 192 - start → length (drop (at - 1) (set bytes (at - 1) 45)) ≤ line + 11
one_more bytes at start d line long ends few some within is = grind (arith, length-drop, length-set)

pub write_digits-self-inside-requires : goal.write_digits-self-inside-requires
write_digits-self-inside-requires c =
    let room = room_for_value c.self.inside.bytes c.args.self.now c.self.inside.start c.from.result c.self.told c.self.invariant
    c.self.view_is c.requires (omega (arith, c.from.ensures, c.unsigned_abs.ensures.bound)) in
    (omega (arith, room), omega (arith, c.self.told, c.self.invariant))

pub overflow_sub-self : goal.overflow_sub-self
overflow_sub-self c =
    let room = room_for_value c.self.inside.bytes c.args.self.now c.self.inside.start c.from.result c.self.told c.self.invariant
    c.self.view_is c.requires (omega (arith, c.from.ensures, c.unsigned_abs.ensures.bound)) in
    omega (arith, room, c.write_digits-self-inside.ensures.start)

pub returns-clause-text : goal.returns-clause-text
returns-clause-text c =
    let w = c.write_digits-self-inside in
    let room = room_for_value c.self.inside.bytes c.args.self.now c.self.inside.start c.from.result c.self.told c.self.invariant
    c.self.view_is c.requires (omega (arith, c.from.ensures, c.unsigned_abs.ensures.bound)) in
    let back = to_z-of_z c.ranges.value in
    sign_before w.new.buf w.result c.from.result c.args.value c.args.self.now
    (omega (arith, room, w.ensures.start)) (omega (arith, w.ensures.start, c.self.invariant, w.auto.buf, c.self.told))
    (w.ensures.written ∙ ap (λ line. decimal c.from.result ++ line) c.self.view_is)
    (c.from.ensures ∙ c.unsigned_abs.ensures.value ∙ ap unsigned_abs back) (rw back at c.if-value-ge0.false)

pub returns-clause-length : goal.returns-clause-length
returns-clause-length c = grind (arith, common_steps, room_for_value, one_more, short, length-drop)

pub returns-then-value-ge0-clause-length : goal.returns-then-value-ge0-clause-length
returns-then-value-ge0-clause-length c = grind (arith, common_steps, longer_by_count, short)
