-- Bytes that begin with a line, by its two ends.
use Rattle.std.proofs.Common.{◌≡◌, ◌∙◌, ◌+◌, ◌-◌, ◌≤◌, ◌++◌, ℕ, List, [], ap, arith, drop, length, sym, take}
use Rattle.byte_ports.proofs.ShortCopies.{both_ends}

-- texts of n to 2 n bytes that have the same first n and last n
pub ends_same : (n : ℕ) (one other : List ℕ) → length one ≡ length other → n ≤ length one → length one ≤ n + n
    → take n one ≡ take n other → drop (length one - n) one ≡ drop (length other - n) other → one ≡ other
ends_same n one other size many few first last =
    sym (both_ends n one [] many few)
    ∙ ap (λ xs. take (length one - n) (xs ++ []) ++ drop (length one - n) one) first
    ∙ ap (λ xs. take (length one - n) (take n other ++ []) ++ xs) last
    ∙ ap (λ k. take (k - n) (take n other ++ []) ++ drop (length other - n) other) size
    ∙ both_ends n other [] (omega (arith, size, many)) (omega (arith, size, few))
