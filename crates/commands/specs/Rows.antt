-- The listing of a program's rows.
use Rattle.std.specs.Prelude.{◌≡◌, ◌⊎◌, ℕ, ◌-◌, true, false, List, [], ◌∷◌, length, take, drop, decimal, slice_index_or, Bool, Option, Result, Ok, Err}
use Rattle.std.specs.{Char.is_ascii_whitespace, Io.KnownBytes.Appends, List.flat_map, List.prefix_len, List.suffix_len}
use Rattle.instruction_table.specs.declared.row.Row.{Row}
use Rattle.row_code.specs.{Reading.image_of as image_in, declared.image.Image.Image}
use Rattle.line_reader.specs.{declared.statement.Line.Line, declared.symbolic_row.SymbolicRow.SymbolicRow, Spelling.Says}
use Rattle.line_reader.specs.{Symbols.Name, Words.lines_of, Listing.line_text, Listing.numbered, Listing.row_words}
use Rattle.line_reader.specs.declared.statement.Statement.TheVariants as statement
use Rattle.assembler.specs.{Meaning.image_of, Meaning.row_of, Meaning.SayInOrder, Meaning.StandsFor, Symbols.row_line}
use Rattle.workbench.specs.{declared.fault.Fault.Fault, List.StopsListing, ProgramFile.is_image_file}

-- a line without the blanks at its start and its end
abbrev pub trimmed : List ℕ → List ℕ
trimmed line =
    let rest = drop (prefix_len is_ascii_whitespace line) line in
    take (length rest - suffix_len is_ascii_whitespace rest) rest

-- the line of this number, from 1
abbrev pub line_at : List (List ℕ) → ℕ → List ℕ
line_at texts number = slice_index_or texts (number - 1) []

-- what is reported about the row of this number, which is in the line of that number
abbrev pub text_row_words : List (List ℕ) → (row number : ℕ) → List (List ℕ)
text_row_words texts row number = decimal row ∷ decimal number ∷ trimmed (line_at texts number) ∷ []

-- what is listed of a row of an image: its number and its canonical words
abbrev pub image_row_words : ℕ → Row → List (List ℕ)
image_row_words n row = decimal n ∷ row_words row

-- the numbers of the lines that say a row, in their order
abbrev pub row_lines : List (Line Name) → List ℕ
row_lines lines = flat_map row_line lines

-- there are as many numbers as rows, and the line of each number says its row; names are those of all lines
abbrev pub AreSaid : List (List ℕ) → List (Line Name) → List Row → List ℕ → Type 0
AreSaid texts lines [] [] = Unit {0}
AreSaid texts lines (row ∷ rows) (number ∷ numbers) =
    ((label : Option Name) × ((said : SymbolicRow Name)
    × (Says (line_at texts number) (statement.Row label said) × (row ≡ row_of lines said))))
    × AreSaid texts lines rows numbers
AreSaid texts lines _ _ = ⊥

-- a line for each row of a text, and of an image; the first row has the number 0
abbrev pub text_listing : List (List ℕ) → List (Line Name) → List ℕ
text_listing texts lines = flat_map line_text (numbered (text_row_words texts) 0 (row_lines lines))

abbrev pub image_listing : Image → List ℕ
image_listing image = flat_map line_text (numbered image_row_words 0 image.rows)

-- the listing of a text: its lines say this, which makes the image that the text stands for
abbrev pub IsTextListing : List ℕ → List ℕ → Type 0
IsTextListing text listing =
    (lines : List (Line Name)) × (SayInOrder 1 (lines_of text) lines × StandsFor text (image_of lines)
    × (listing ≡ text_listing (lines_of text) lines))

-- the listing of the program in a file
abbrev pub IsRowListing : List ℕ → List ℕ → Type 0
IsRowListing file listing =
    ((is_image_file file ≡ true) × ((image : Image) × ((image_in file ≡ Ok image) × (listing ≡ image_listing image))))
    ⊎ ((is_image_file file ≡ false) × IsTextListing file listing)

-- the rows of the program that a file's bytes are were listed; or why not, as `list` stops
abbrev pub ListsRows : (file : List ℕ) → Result (Unit {0}) Fault → (output_before output_after : Option (List ℕ)) (output_failed : Bool) → Type 0
ListsRows file (Ok done) output_before output_after output_failed =
    (listing : List ℕ) × (IsRowListing file listing × Appends output_before output_after listing)
ListsRows file (Err f) output_before output_after output_failed = StopsListing f output_before output_after output_failed
