-- The state in which a run ended.
use Rattle.std.specs.Prelude.{ℕ, ◌+◌, ◌==◌, List, ◌∷◌, ◌++◌, codes, drop}
use Rattle.std.specs.List.{position_or_len}
use Rattle.thread_machine.specs.{World.World, Standing.name_of}
use Rattle.thread_runner.specs.{declared.ending.Ending.Ending, Endings.standing_at}
use Rattle.trace_text.specs.State.{state_text}

-- the word of the state
abbrev pub ending_word : Ending → List ℕ
ending_word ending = name_of (standing_at ending)

abbrev pub behind_first_line : List ℕ → List ℕ
behind_first_line text = drop (position_or_len (λ byte. byte == 10) text + 1) text

-- the text of a state without the counts in its first line
abbrev pub end_text : Ending → World → List ℕ
end_text ending world = codes "state " ++ (ending_word ending ++ (10 ∷ behind_first_line (state_text world)))
