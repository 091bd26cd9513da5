-- Rows, and the lines that say them.
use Rattle.std.proofs.Common.{◌≡◌, ◌∙◌, inl, inr, true, false, ℕ, zero, suc, ◌+◌, List, [], ◌∷◌, ◌++◌, drop, Option, Some, Result, Ok, Err, slice_index_or, refl, sym, ap, subst, arith, IfOk}
use Rattle.std.specs.{Global.Vec, List.flat_map, List.slice_split}
use Rattle.row_code.specs.{Answers.◌>>=◌, declared.image.Image.Image}
use Rattle.line_reader.specs.declared.{asm_fault.AsmFault.AsmFault, statement.Line.Line, statement.Statement.Statement}
use Rattle.line_reader.specs.{Spelling.Says, Symbols.Name, Words.is_line_end, Words.lines_of, Words.without_empty_last}
use Rattle.line_reader.specs.Listing.{line_text, numbered}
use Rattle.assembler.specs.{Meaning.image_of, Meaning.rows_in, Meaning.SayInOrder, Meaning.StandsFor, Statements.Follows}
use Rattle.assembler.specs.Passes.{assembled, first_unknown, lines_read, looked_up}
use Rattle.assembler.specs.Symbols.{SymbolTable, symbols_in, symbols_of}
use Rattle.assembler.proofs.{FirstPass.one_less, ReadLines.lines_take, ReadLines.stands_for-assembled}
use Rattle.assembler.proofs.SpelledLines.{LineSays, line_again}
use Rattle.commands.specs.Rows.{AreSaid, IsRowListing, IsTextListing, image_listing, line_at, row_lines, text_row_words}
use Rattle.workbench.specs.ProgramFile.{IsNamedProgram, is_image_file}

-- ---- the lines of a text, with an empty one behind the last line end

-- a last line that is empty is as good as none
same_line : (pieces : List (List ℕ)) (i : ℕ) → slice_index_or (without_empty_last pieces) i [] ≡ slice_index_or pieces i []
same_line [] i = refl
same_line ([] ∷ []) zero = refl
same_line ([] ∷ []) (suc i) = refl
same_line ((x ∷ xs) ∷ []) i = refl
same_line ([] ∷ next ∷ pieces) zero = refl
same_line ([] ∷ next ∷ pieces) (suc i) = same_line (next ∷ pieces) i
same_line ((x ∷ xs) ∷ next ∷ pieces) zero = refl
same_line ((x ∷ xs) ∷ next ∷ pieces) (suc i) = same_line (next ∷ pieces) i

pub rows_by_pieces : (text : List ℕ) (pieces : List (List ℕ)) (numbers none listing : List ℕ)
    → pieces ≡ slice_split is_line_end text → none ≡ []
    → listing ≡ none ++ flat_map line_text (numbered (text_row_words pieces) 0 numbers)
    → listing ≡ flat_map line_text (numbered (text_row_words (lines_of text)) 0 numbers)
rows_by_pieces text pieces numbers none listing are is-none is = grind (arith, same_line)

-- ---- the lines that were read

bound : {A B C : Type 0} (r : Result A AsmFault) (f : A → Result B AsmFault) (y : B) → (r >>= f) ≡ Ok y
    → ((x : A) → r ≡ Ok x → f x ≡ Ok y → C) → C
bound r f y e then = grind arith

-- the image of the lines that were read
image_read : (text : List ℕ) (image : Image) (lines : List (Line Name)) → StandsFor text image
    → lines_read 1 [] (lines_of text) ≡ Ok lines → image ≡ image_of lines
unfolding assembled
image_read text image lines stands read =
    let all : (lines_read 1 [] (lines_of text) >>= (λ ls. looked_up ls (first_unknown ls))) ≡ Ok image =
    stands_for-assembled text image stands in
    grind arith

table_rows : (lines : List (Line Name)) (table : SymbolTable) (r : Result SymbolTable AsmFault) → r ≡ Ok (symbols_of lines)
    → r ≡ Ok table → table.rows ≡ row_lines lines
table_rows lines table r is e = grind arith

pub text_listed : (text : List ℕ) (image : Image) (table : SymbolTable) (numbers listing : List ℕ) → StandsFor text image
    → symbols_in text ≡ Ok table → numbers ≡ table.rows
    → listing ≡ flat_map line_text (numbered (text_row_words (lines_of text)) 0 numbers) → IsTextListing text listing
unfolding symbols_in
text_listed text image table numbers listing stands named are is =
    bound (lines_read 1 [] (lines_of text)) (λ ls. Ok (symbols_of ls)) table named (λ lines read e.
    let said = lines_take 1 [] (lines_of text) lines read in (
      lines,
      (
        subst (λ (ls : List (Line Name)). SayInOrder 1 (lines_of text) ls) (sym said.1) said.2,
        subst (λ (i : Image). StandsFor text i) (image_read text image lines stands read) stands,
        is ∙ ap (λ ns. flat_map line_text (numbered (text_row_words (lines_of text)) 0 ns))
            (are ∙ table_rows lines table _ refl e),
      ),
    ))

-- the listing of a program, by what its bytes are
pub listing_of_image : (file listing : List ℕ) (image : Image) (table : SymbolTable) → IsNamedProgram file image table
    → is_image_file file ≡ true → listing ≡ image_listing image → IsRowListing file listing
listing_of_image file listing image table (inl (is, ((read, fits), none))) holds same = inl (is, (image, (read, same)))
listing_of_image file listing image table (inr (is, (stands, named))) holds same = absurd (cc (is, holds))

pub listing_of_text : (file listing numbers : List ℕ) (image : Image) (table : SymbolTable) → IsNamedProgram file image table
    → is_image_file file ≡ false → numbers ≡ table.rows
    → listing ≡ flat_map line_text (numbered (text_row_words (lines_of file)) 0 numbers) → IsRowListing file listing
listing_of_text file listing numbers image table (inl (is, (read, none))) other are same = absurd (cc (is, other))
listing_of_text file listing numbers image table (inr (is, (stands, named))) other are same =
    inr (is, text_listed file image table numbers listing stands named are same)

-- as they are returned
pub image_listed : (file : List ℕ) (image : Image) (table : SymbolTable) {E : Type 0} (listed : Result (Vec ℕ) E)
    → IsNamedProgram file image table → is_image_file file ≡ true → IfOk listed (λ listing. listing.items ≡ image_listing image)
    → IfOk listed (λ listing. IsRowListing file listing.items)
image_listed file image table (Ok listing) named is same = listing_of_image file listing.items image table named is same
image_listed file image table (Err error) named is same = tt

pub text_rows_listed : (file numbers : List ℕ) (image : Image) (table : SymbolTable) {E : Type 0} (listed : Result (Vec ℕ) E)
    → IsNamedProgram file image table → is_image_file file ≡ false → numbers ≡ table.rows
    → IfOk listed (λ listing. listing.items ≡ flat_map line_text (numbered (text_row_words (lines_of file)) 0 numbers))
    → IfOk listed (λ listing. IsRowListing file listing.items)
text_rows_listed file numbers image table (Ok listing) named other are same =
    listing_of_text file listing.items numbers image table named other are same
text_rows_listed file numbers image table (Err error) named other are same = tt

-- ---- each row is said by its line

there : (texts : List (List ℕ)) (n : ℕ) (text : List ℕ) (rest : List (List ℕ)) → drop n texts ≡ text ∷ rest
    → slice_index_or texts n [] ≡ text
there [] zero text rest e = absurd (cc)
there [] (suc n) text rest e = absurd (cc)
there (first ∷ texts) zero text rest e = cc
there (first ∷ texts) (suc n) text rest e = there texts n text rest e

line_there : (texts : List (List ℕ)) (n : ℕ) (text : List ℕ) (rest : List (List ℕ)) → drop n texts ≡ text ∷ rest
    → line_at texts (n + 1) ≡ text
line_there texts n text rest e = grind (arith, there)

-- the rows that lines make, and the numbers of their lines
abbrev Said : List (List ℕ) → List (Line Name) → List (Line Name) → Type 0
Said texts lines more = AreSaid texts lines (flat_map (λ line. rows_in lines line.statement) more) (row_lines more)

-- a line more in front
one_said : (texts : List (List ℕ)) (lines : List (Line Name)) (number : ℕ) (said : Statement Name) (others : List (Line Name))
    → Says (line_at texts number) said → Said texts lines others
    → Said texts lines (record { number = number; statement = said } ∷ others)
one_said texts lines number said others says rest = grind arith

said_from : (texts : List (List ℕ)) (lines : List (Line Name)) (n : ℕ) (rest : List (List ℕ)) (more : List (Line Name))
    → drop n texts ≡ rest → SayInOrder (n + 1) rest more → Said texts lines more
said_from texts lines n [] more left s = subst (λ (ls : List (Line Name)). Said texts lines ls) (sym s) tt
said_from texts lines n (text ∷ rest) more left (inl s) =
    said_from texts lines (n + 1) rest more (one_less texts n text rest left) s.1
said_from texts lines n (text ∷ rest) more left (inr s) =
    let says = subst (λ line. Says line s.0) (sym (line_there texts n text rest left)) s.3 in
    let others = said_from texts lines (n + 1) rest s.1 (one_less texts n text rest left) s.4 in
    subst (λ (ls : List (Line Name)). Said texts lines ls) (sym s.2)
    (one_said texts lines (n + 1) s.0 s.1 says others)

pub rows_said : (text : List ℕ) (lines : List (Line Name)) → SayInOrder 1 (lines_of text) lines
    → AreSaid (lines_of text) lines (image_of lines).rows (row_lines lines)
rows_said text lines s = said_from (lines_of text) lines 0 (lines_of text) lines refl s

-- ---- a file has one listing

-- behind no line anything may stand
follows_none : (said : Statement Name) → Follows [] said
follows_none said = grind arith

same_statement : (text : List ℕ) (s t : Option (Statement Name)) → LineSays [] text s → LineSays [] text t → s ≡ t
same_statement text s t p q = grind (arith, line_again)

abbrev numbered_line : ℕ → Statement Name → Line Name
numbered_line n said = record { number = n; statement = said }

next_same : (n : ℕ) (a b : List (Line Name)) (s t : Statement Name) (c d : List (Line Name)) → a ≡ numbered_line n s ∷ c
    → b ≡ numbered_line n t ∷ d → Some s ≡ Some t → c ≡ d → a ≡ b
next_same n a b s t c d is also said others = cc

same_lines : (n : ℕ) (texts : List (List ℕ)) (a b : List (Line Name)) → SayInOrder n texts a → SayInOrder n texts b → a ≡ b
same_lines n [] a b s t = s ∙ sym t
same_lines n (text ∷ texts) a b (inl s) (inl t) = same_lines (n + 1) texts a b s.1 t.1
same_lines n (text ∷ texts) a b (inl s) (inr t) = grind (arith, same_statement, follows_none)
same_lines n (text ∷ texts) a b (inr s) (inl t) = grind (arith, same_statement, follows_none)
same_lines n (text ∷ texts) a b (inr s) (inr t) =
    next_same n a b s.0 t.0 s.1 t.1 s.2 t.2
    (same_statement text (Some s.0) (Some t.0) (s.3, follows_none s.0) (t.3, follows_none t.0))
    (same_lines (n + 1) texts s.1 t.1 s.4 t.4)

pub one_listing : (file a b : List ℕ) → IsRowListing file a → IsRowListing file b → a ≡ b
one_listing file a b given given_too = grind (arith, same_lines)
