-- What keeps a thread's line short. Only proofs use this, from line to line: no promise depends on it.
use Rattle.std.specs.Prelude.{◌≤◌, length, flat_map}
use Rattle.thread_state.specs.Thread.{ThreadState}
use Rattle.trace_text.specs.State.{value_text}

-- its stack has at most 64 entries, and its output at most 4,096 numbers, each in at most 12 bytes
pub record IsBrief (thread : ThreadState) : Type 0 where
  pub stack : length thread.stack ≤ 64
  pub output : length (flat_map value_text thread.output) ≤ 49152
