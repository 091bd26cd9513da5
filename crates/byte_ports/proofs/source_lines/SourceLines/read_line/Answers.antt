use Rattle.std.proofs.Common.{◌≡◌, ◌∙◌, ◌⊎◌, ◌≤◌, ◌++◌, ℕ, List, ap, append_assoc, inr, sym, subst, length, take, arith, length-append, length-drop, length-take-le, rules}
use Rattle.std.proofs.KnownBytes.{Keeps-trans}
use Rattle.byte_ports.specs.SourceLines.{EndsInAPiece, IsOneLine}
use Rattle.byte_ports.proofs.Pieces.{front-held, less-line, line-held, one-still, piece-behind, taken-held}
use Rattle.byte_ports.proofs.source_lines.SourceLines.read_line.Goals as goal

pub returns-then-place-gt-MOST_BYTES-clause-bytes :
    goal.returns-then-place-gt-MOST_BYTES-clause-bytes
returns-then-place-gt-MOST_BYTES-clause-bytes g c = search (rules, taken-held, front-held)

pub returns-then-place-gt-MOST_BYTES-clause-came :
    goal.returns-then-place-gt-MOST_BYTES-clause-came
returns-then-place-gt-MOST_BYTES-clause-came g c =
    ap length c.take_line.ensures.line
    ∙ length-take-le 65537 c.loop-held.self.held (omega (arith, ap length c.held-held.ensures.value, c.place_of_lf-place.ensures.within, c.if-place-gt-MOST_BYTES.true))

pub returns-then-place-gt-MOST_BYTES-clause-one : goal.returns-then-place-gt-MOST_BYTES-clause-one
returns-then-place-gt-MOST_BYTES-clause-one g c =
    subst IsOneLine (sym c.take_line.ensures.line)
    (less-line 65537 c.place_of_lf-place.result c.loop-held.self.held (omega (arith, c.if-place-gt-MOST_BYTES.true))
    (subst (λ b. IsOneLine (take c.place_of_lf-place.result b)) c.held-held.ensures.value c.place_of_lf-place.ensures.one))

pub returns-then-place-gt-MOST_BYTES-clause-given :
    goal.returns-then-place-gt-MOST_BYTES-clause-given
returns-then-place-gt-MOST_BYTES-clause-given g c = λ _.
    let within : 65537 ≤ length c.loop-held.self.held =
    omega (arith, ap length c.held-held.ensures.value, c.place_of_lf-place.ensures.within, c.if-place-gt-MOST_BYTES.true) in
    let line : length c.take_line.new.self.line ≡ 65537 = ap length c.take_line.ensures.line ∙ length-take-le 65537 c.loop-held.self.held within in
    omega (arith, line, within, ap length c.take_line.ensures.held, length-drop 65537 c.loop-held.self.held, c.take_line.ensures.reads, c.loop-held.invariant.given)

pub returns-then-place-held-clause-bytes : goal.returns-then-place-held-clause-bytes
returns-then-place-held-clause-bytes g c =
    taken-held (g.S.Source.left c.args.source.now) (g.S.Source.left c.loop-held.source) c.args.self.now.held c.loop-held.self.held
    _ c.take_line-then-place-held.new.self.held c.loop-held.invariant.bytes
    (line-held c.held-held.result.now c.loop-held.self.held _ _ c.place_of_lf-place.result c.held-held.ensures.value c.if-place-held.true
    (c.place_of_lf-place.ensures.lf c.if-place-held.true) c.take_line-then-place-held.ensures.line c.take_line-then-place-held.ensures.held)

pub returns-then-place-gt-MOST_BYTES-clause-far : goal.returns-then-place-gt-MOST_BYTES-clause-far
returns-then-place-gt-MOST_BYTES-clause-far g c =
    subst (λ bytes. (g.S.Source.left c.loop-held.source ≡ g.S.Source.left c.args.source.now) ⊎ EndsInAPiece bytes)
    (front-held c.loop-held.self.held _ _ 65537 c.take_line.ensures.line c.take_line.ensures.held) c.loop-held.invariant.far

pub returns-then-place-held-clause-far : goal.returns-then-place-held-clause-far
returns-then-place-held-clause-far g c =
    subst (λ bytes. (g.S.Source.left c.loop-held.source ≡ g.S.Source.left c.args.source.now) ⊎ EndsInAPiece bytes)
    (line-held c.held-held.result.now c.loop-held.self.held _ _ c.place_of_lf-place.result c.held-held.ensures.value c.if-place-held.true
    (c.place_of_lf-place.ensures.lf c.if-place-held.true) c.take_line-then-place-held.ensures.line c.take_line-then-place-held.ensures.held)
    c.loop-held.invariant.far

pub loop-held-preserved : goal.loop-held-preserved
loop-held-preserved g c =
    let inv = c.loop-held.invariant in
    let place = c.place_of_lf-place in
    let (got, (is, size, few)) = c.in_ok-fill.ensures.got in
    let held = c.loop-held.self.held in
    let all : length c.held-held.result.now ≤ place.result = omega (arith, c.if-place-held.false) in
    record {
      bytes = Keeps-trans _ _ _ inv.bytes c.in_ok-fill.ensures.bytes;
      one = one-still held c.held-held.result.now got _ place.result c.held-held.ensures.value place.ensures.within all is place.ensures.one;
      within = omega (arith, place.ensures.within, ap length c.held-held.ensures.value, ap length is, length-append held got);
      few = omega (arith, c.if-place-gt-MOST_BYTES.false);
      given = omega (arith, inv.given, c.in_ok-fill.ensures.counted, ap length is, length-append held got, size, c.if-branch-eq0.false);
      far = inr (piece-behind held c.held-held.result.now got _ place.result c.held-held.ensures.value all is place.ensures.one
          (omega (arith, size, few)));
      behind = (let (more, grown) = inv.behind in (more ++ got, is ∙ ap (λ h. h ++ got) grown ∙ append_assoc c.args.self.now.held more got));
      sound = λ _. c.in_ok-fill.ensures.sound;
      reads = omega (arith, inv.reads, c.in_ok-fill.ensures.reads);
    }

pub returns-then-place-gt-MOST_BYTES-clause-behind :
    goal.returns-then-place-gt-MOST_BYTES-clause-behind
returns-then-place-gt-MOST_BYTES-clause-behind g c =
    subst (λ bytes. (got : List ℕ) × (bytes ≡ c.args.self.now.held ++ got))
    (front-held c.loop-held.self.held _ _ 65537 c.take_line.ensures.line c.take_line.ensures.held) c.loop-held.invariant.behind

pub returns-then-place-held-clause-behind : goal.returns-then-place-held-clause-behind
returns-then-place-held-clause-behind g c =
    subst (λ bytes. (got : List ℕ) × (bytes ≡ c.args.self.now.held ++ got))
    (line-held c.held-held.result.now c.loop-held.self.held _ _ c.place_of_lf-place.result c.held-held.ensures.value c.if-place-held.true
    (c.place_of_lf-place.ensures.lf c.if-place-held.true) c.take_line-then-place-held.ensures.line c.take_line-then-place-held.ensures.held)
    c.loop-held.invariant.behind
