-- Bytes that are copied by their two ends.
use Rattle.std.proofs.Common.{◌≡◌, ◌+◌, ◌-◌, ◌≤◌, ℕ, List, ◌++◌, length, take, drop, arith, length-take-le, take-append-drop, take-take}
use Rattle.std.proofs.lemmas.List.{take-append-le}

-- the first n of some bytes, and over what is behind them the last n, are all of them
pub both_ends : (n : ℕ) (from rest : List ℕ) → n ≤ length from → length from ≤ n + n
    → take (length from - n) (take n from ++ rest) ++ drop (length from - n) from ≡ from
both_ends n from rest many few = grind (arith, take-append-le, length-take-le, take-take, take-append-drop)
