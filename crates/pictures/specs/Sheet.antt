-- The layout of a picture, and how texts are fitted into it.
use Rattle.std.specs.Prelude.{ℕ, ◌+◌, ◌-◌, ◌*◌, ◌/◌, min, max, nat_le, if◌then◌else◌, List, [], ◌∷◌, ◌++◌, length, take, replicate, codes, decimal}
use Rattle.pictures.specs.declared.sheet.Sheet.{Sheet}

-- The number of a choice takes 8 bytes, and what follows the columns gets at least 15. A column is at least 19 bytes wide, if
-- the line allows it, and at most 27. There are as few blocks as possible, and each has about as many threads.
abbrev pub most_beside : ℕ → ℕ
most_beside width = max 1 ((width - 23) / 19)

abbrev pub blocks_of : ℕ → ℕ → ℕ
blocks_of width threads = (threads - 1) / most_beside width + 1

abbrev pub beside_of : ℕ → ℕ → ℕ
beside_of width threads = (threads - 1) / blocks_of width threads + 1

-- the most bytes in a line, how many threads stand side by side, and how wide their columns are
abbrev pub sheet_of : ℕ → ℕ → Sheet
sheet_of width threads = record {
  width = width;
  beside = beside_of width threads;
  column = min 27 ((width - 23) / beside_of width threads);
}

-- how many blocks there are, without the last
abbrev pub other_blocks : Sheet → ℕ → ℕ
other_blocks sheet threads = (threads - 1) / sheet.beside

-- the column of what changed besides the thread, and its width; the width of a thread's column without the blank after it
abbrev pub mark_column : Sheet → ℕ
mark_column sheet = 8 + sheet.beside * sheet.column

abbrev pub mark_room : Sheet → ℕ
mark_room sheet = sheet.width - mark_column sheet

abbrev pub column_room : Sheet → ℕ
column_room sheet = sheet.column - 1

-- so many blanks
abbrev pub blanks : ℕ → List ℕ
blanks n = replicate n 32

-- a text in at most so many bytes: if it is longer, its beginning and `~`
abbrev pub shortened : ℕ → List ℕ → List ℕ
shortened room text = if nat_le (length text) room then text else take room (take (room - 1) text ++ codes "~")

-- two texts in at most so many bytes: the first is shortened, the second only if it is too long by itself
abbrev pub kept_behind : ℕ → List ℕ → List ℕ → List ℕ
kept_behind room front back = shortened room (shortened (room - length back) front ++ back)

-- a line with one more text at this column, after blanks; an empty text adds nothing
abbrev pub put_at : ℕ → List ℕ → List ℕ → List ℕ
put_at column [] line = line
put_at column (byte ∷ text) line = line ++ (blanks (column - length line) ++ (byte ∷ text))

-- the number of a choice, at the right of six bytes
abbrev pub number_text : ℕ → List ℕ
number_text n = blanks (6 - length (decimal n)) ++ decimal n
