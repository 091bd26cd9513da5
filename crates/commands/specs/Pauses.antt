-- How long a worker pauses before a turn.
use Rattle.std.specs.Prelude.{ℕ, ◌+◌, ◌*◌, ◌/◌, ◌%◌, ◌==◌, if◌then◌else◌}
use Rattle.rand_pcg.specs.{Lcg.advance, Lcg.increment_of, Lcg.started, Pcg.multiplier_64, Pcg.pcg32}
use Rattle.commands.specs.declared.pauses.pause.Pause.{Pause}
use Rattle.commands.specs.declared.pauses.pause.Pause.TheVariants as pause

-- each thread of each run has its own stream
abbrev pub stream_of : ℕ → ℕ → ℕ
stream_of run thread = run * 256 + thread

-- the word for a thread's turn: that many steps into its stream
abbrev pub word_at : ℕ → ℕ → ℕ → ℕ → ℕ
word_at seed run thread step =
    (pcg32 (advance 64 multiplier_64 step (started 64 multiplier_64 seed (increment_of 64 (stream_of run thread))))).0

-- before half of the turns there is no pause; before a quarter the worker yields 1 to 8 times; before a quarter it spins for 1 to
-- 4,096 rounds
abbrev pub pause_by : ℕ → ℕ → Pause
pause_by kind rest =
    if kind == 0 then pause.Yield (rest % 8 + 1) else (if kind == 1 then pause.Spin (rest % 4096 + 1) else pause.NoPause)

abbrev pub pause_of : ℕ → Pause
pause_of word = pause_by (word % 4) (word / 4)
