-- What a terminal is shown of the first bytes is the first of what it is shown of all.
use Rattle.std.proofs.Common.{◌≡◌, ◌∙◌, ◌≤◌, ℕ, List, length, map, take, Option, Result, Ok, Err, IfOk, sym, ap, subst, arith, length-take, take-take}
use Rattle.std.proofs.lemmas.List.{take-map}
use Rattle.std.specs.Io.KnownBytes.{Appends, WriteAppends}
use Rattle.command_line.specs.Shown.{shown_for}

pub shown_front : {E : Type 0} (old new : Option (List ℕ)) (r : Result ℕ E) (bytes piece : List ℕ) (count : ℕ) →
    piece ≡ map shown_for (take count bytes) → IfOk r (λ n. n ≤ length piece) →
    WriteAppends old new r piece → WriteAppends old new r (map shown_for bytes)
shown_front old new (Ok n) bytes piece count is within appends =
    let front : piece ≡ take count (map shown_for bytes) = is ∙ sym (take-map shown_for count bytes) in
    let long = length-take count (map shown_for bytes) in
    let few : n ≤ count = omega (arith, within, ap length front, long) in
    subst (Appends old new) (ap (take n) front ∙ take-take n count (map shown_for bytes) few) appends
shown_front old new (Err e) bytes piece count is within keeps = keeps
