use Rattle.std.proofs.Common.{◌≡◌, ◌∙◌, ◌&&◌, ◌∷◌, [], drop, length, rules, take}
use Rattle.std.specs.Str.{bytes_eq}
use Rattle.trace_compare.proofs.Verdicts.{line-eq}
use Rattle.trace_compare.proofs.comparison.is_line.Goals as goal

pub returns-then-starts_with : goal.returns-then-starts_with
returns-then-starts_with c =
    let line = c.args.line.now in
    let text = c.args.text.now in
    let is : c.eq.result ≡ (bytes_eq line (take (length line) text) && bytes_eq (drop (length line) text) (10 ∷ [])) = search rules in
    is ∙ line-eq line text

pub returns-else-starts_with : goal.returns-else-starts_with
returns-else-starts_with c =
    let line = c.args.line.now in
    let text = c.args.text.now in
    let is : c.starts_with.result ≡ (bytes_eq line (take (length line) text) && bytes_eq (drop (length line) text) (10 ∷ [])) = search rules in
    is ∙ line-eq line text
