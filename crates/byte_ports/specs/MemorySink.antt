-- A sink in memory, as its callers see it.
use Rattle.std.specs.Prelude.{ℕ, ◌+◌, Bool, ◌||◌, nat_lt, List, length, Option}
use Rattle.byte_ports.specs.FailAt.{is_due}

-- the bytes written, the room in all, the call that is to fail, and whether one has failed
pub record Store : Type 0 where
  pub written : List ℕ
  pub room : ℕ
  pub fail_at : Option ℕ
  pub failed : Bool

-- a call with these bytes fails: an earlier one has, this is the call that is to, or no room
abbrev pub push_fails : Store → List ℕ → Bool
push_fails store bytes =
    store.failed || is_due store.fail_at || nat_lt store.room (length store.written + length bytes)
