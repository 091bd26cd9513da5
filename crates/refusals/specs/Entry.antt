-- How an entry of the table is written: its texts, word for word and in this order.
use Rattle.std.specs.Prelude.{ℕ, List, ◌++◌, Option, Some, None, codes}
use Rattle.std.specs.Fmt.{decimal}
use Rattle.refusals.specs.declared.entry.{Entry.Entry, Place.Place}

abbrev pub line : List ℕ → List ℕ → List ℕ
line label text = label ++ (text ++ codes "\n")

-- the line of a place, if there is one
abbrev pub place_line : Option Place → List ℕ
place_line (Some place) = codes "  Place:  " ++ (place.word.now ++ line (codes " ") (decimal place.number))
place_line None = codes ""

-- what follows the words of the line
abbrev pub words_of : Entry → Option Place → List ℕ
words_of e place =
    line (codes "  Means:   ") e.means.now ++ (place_line place ++ (line (codes "  Helps:   ") e.helps.now
    ++ (line (codes "  Example: ") e.example.now ++ line (codes "  More:    ") e.more.now)))

-- an entry as it is written
abbrev pub text_of : Entry → Option Place → List ℕ
text_of e place = line (codes "") e.told.now ++ words_of e place
