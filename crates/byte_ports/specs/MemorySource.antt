-- A source in memory, as its callers see it.
use Rattle.std.specs.Prelude.{ℕ, Bool, ◌||◌, List, Option}
use Rattle.byte_ports.specs.FailAt.{is_due}

-- the bytes left, the call that is to fail, and whether one has failed
pub record Feed : Type 0 where
  pub left : List ℕ
  pub fail_at : Option ℕ
  pub failed : Bool

-- the next call fails: an earlier one has, or it is the call that is to
abbrev pub pull_fails : Feed → Bool
pull_fails feed = feed.failed || is_due feed.fail_at
