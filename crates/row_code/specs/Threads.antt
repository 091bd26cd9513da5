-- The threads of an image, and the bytes of each.
use Rattle.std.specs.Prelude.{ℕ, ◌<◌, ◌≤◌, pos, List, length, All}
use Rattle.row_code.specs.{declared.threads.DeclaredThread.DeclaredThread, Number.i32_bytes}

-- a thread begins at one of 65536 rows
pub record IsThread (t : DeclaredThread) : Type 0 where
  pub first_row : t.first_row < 65536

-- at most 64 threads, each in its range
abbrev pub AreThreads : List DeclaredThread → Type 0
AreThreads ts = (length ts ≤ 64) × All IsThread ts

-- the 4 bytes of a thread
abbrev pub thread_bytes : DeclaredThread → List ℕ
thread_bytes t = i32_bytes (pos t.first_row)
