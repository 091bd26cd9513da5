-- Where a file's program text ends and its schedule begins: at the first line whose only word is `.run`.
use Rattle.std.specs.Prelude.{ℕ, if◌then◌else◌, Bool, false, List, [], ◌∷◌, ◌++◌, codes}
use Rattle.std.specs.{List.slice_split, List.join_with_byte, Str.bytes_eq}
use Rattle.line_reader.specs.Words.{is_line_end, words_of}

-- `.run` and no other word
abbrev pub are_run : List (List ℕ) → Bool
are_run (word ∷ []) = bytes_eq word (codes ".run")
are_run _ = false

-- whether `.run` is the line's only word
abbrev pub is_run_line : List ℕ → Bool
is_run_line line = are_run (words_of line)

-- the lines that follow the first line whose only word is `.run`
abbrev pub after_run : List (List ℕ) → List (List ℕ)
after_run [] = []
after_run (line ∷ lines) = if is_run_line line then lines else after_run lines

-- the schedule in a text: what follows the first line `.run` and its LF, or nothing if there is none
abbrev pub schedule_part : List ℕ → List ℕ
schedule_part bytes = join_with_byte 10 (after_run (slice_split is_line_end bytes))

-- the lines before the first line `.run`, each with its LF, or all bytes if there is none
abbrev pub before_run : List (List ℕ) → List ℕ
before_run [] = []
before_run (line ∷ []) = if is_run_line line then [] else line
before_run (line ∷ next ∷ lines) = if is_run_line line then [] else line ++ (10 ∷ before_run (next ∷ lines))

-- the program in a text: what precedes the first line `.run`
abbrev pub program_part : List ℕ → List ℕ
program_part bytes = before_run (slice_split is_line_end bytes)
