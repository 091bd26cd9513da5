-- The number of the next phase, and the view of a phase.
use Rattle.std.specs.Prelude.{ℕ, ℤ, pos, negsuc, ◌-ℤ◌, ◌+◌, ◌==◌, if◌then◌else◌, Bool, true, false}

-- the phase after phase n: 2147483647 is the last number, and 0 follows it
abbrev pub next_phase : ℕ → ℕ
next_phase n = if n == 2147483647 then 0 else n + 1

-- what a phaser in phase n shows: n while it runs, n - 2147483648 once it is terminated
abbrev pub phase_view : ℕ → Bool → ℤ
phase_view n false = pos n
phase_view n true = pos n -ℤ pos 2147483648

-- a view below 0 is that of a terminated phaser
abbrev pub is_ended_view : ℤ → Bool
is_ended_view (pos n) = false
is_ended_view (negsuc n) = true
