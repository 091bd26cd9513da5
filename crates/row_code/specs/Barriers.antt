-- The barriers of an image, and the bytes of each.
use Rattle.std.specs.Prelude.{ℕ, ◌<◌, ◌≤◌, ℤ, pos, List, ◌++◌, length, All, Option, None, Some, IfSome}
use Rattle.row_code.specs.{declared.barriers.DeclaredBarrier.DeclaredBarrier, Number.u16_bytes, Number.i32_bytes}

-- the ranges of a barrier's fields
pub record IsBarrier (b : DeclaredBarrier) : Type 0 where
  pub parties : b.parties < 65536
  pub action : IfSome b.action (λ row. row < 65536)

-- at most 64 barriers, each in its ranges
abbrev pub AreBarriers : List DeclaredBarrier → Type 0
AreBarriers bs = (length bs ≤ 64) × All IsBarrier bs

-- whether there is an action, and its row, or 0 if there is none
abbrev pub action_flag : Option ℕ → ℕ
action_flag None = 0
action_flag (Some _) = 1

abbrev pub action_row : Option ℕ → ℤ
action_row None = pos 0
action_row (Some row) = pos row

-- the 8 bytes of a barrier
abbrev pub barrier_bytes : DeclaredBarrier → List ℕ
barrier_bytes b =
    u16_bytes b.parties ++ (u16_bytes (action_flag b.action) ++ i32_bytes (action_row b.action))
