-- A sink that counts all bytes, as its callers see it.
use Rattle.std.specs.Prelude.{◌≡◌, ◌≤◌, ℕ, List, length, take}

-- all bytes written to it, and the first ones, which it has kept
pub record Tally : Type 0 where
  pub written : List ℕ
  pub kept : List ℕ

-- these are the first of those
pub record AreFirst (kept came : List ℕ) : Type 0 where
  pub few : length kept ≤ length came
  pub first : kept ≡ take (length kept) came

-- the count stops here
abbrev pub most_counted : ℕ
most_counted = 18446744073709551615
