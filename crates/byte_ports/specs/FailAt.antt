-- The number of the call at which a port in memory fails: 0 is the next call. With None no call fails.
use Rattle.std.specs.Prelude.{ℕ, ◌-◌, ◌==◌, Bool, false, Option, None, Some}

-- it is the next call
abbrev pub is_due : Option ℕ → Bool
is_due None = false
is_due (Some calls) = calls == 0

-- the same call, once one more call was made before it
abbrev pub one_nearer : Option ℕ → Option ℕ
one_nearer None = None
one_nearer (Some calls) = Some (calls - 1)
