-- Lists of numbered texts and statements, and statements as lines.
use Rattle.std.proofs.Common.{◌≡◌, ℕ, ◌+◌, ◌<◌, ◌≤◌, Bool, true, ◌&&◌, List, [], ◌∷◌, ◌++◌, length, map, refl, ap, ◌∙◌, arith}
use Rattle.std.proofs.lemmas.Bool.{and_from}
use Rattle.std.specs.List.{flat_map, list_all, AllByRecursion, slice_split}
use Rattle.line_reader.specs.{declared.statement.Line.Line, declared.statement.Statement.Statement, Symbols.Name, Spelling.Says}
use Rattle.line_reader.specs.Words.{is_line_end, without_empty_last, lines_of}
use Rattle.line_reader.specs.Listing.{joined, line_text, numbered}
use Rattle.assembler.specs.Meaning.{SayInOrder}
use Rattle.assembler.proofs.JoinedWords.{lines_of-ended}

without_empty_end : (pieces : List (List ℕ)) → without_empty_last (pieces ++ ([] ∷ [])) ≡ pieces
without_empty_end ([] ∷ next ∷ pieces) = ap (λ rest. [] ∷ rest) (without_empty_end (next ∷ pieces))
without_empty_end ((byte ∷ bytes) ∷ next ∷ pieces) = grind (arith, without_empty_end (next ∷ pieces))
without_empty_end pieces = grind arith

-- statements as lines, from n on
abbrev pub lines_from : ℕ → List (Statement Name) → List (Line Name)
lines_from n [] = []
lines_from n (said ∷ others) = record { number = n; statement = said } ∷ lines_from (n + 1) others

-- each line of words says the statement at its place
abbrev pub SayEach : List (List (List ℕ)) → List (Statement Name) → Type 0
SayEach [] [] = Unit {0}
SayEach (words ∷ lines) (said ∷ others) = Says (joined words) said × SayEach lines others
SayEach _ _ = ⊥

-- ---- texts

pub map_numbered : {A B : Type 0} (f : A → B) (n : ℕ) (xs : List A) → map f xs ≡ numbered (λ k x. f x) n xs
map_numbered f n [] = refl
map_numbered f n (x ∷ xs) = ap (λ rest. f x ∷ rest) (map_numbered f (n + 1) xs)

pub SayEach-append : (a c : List (List (List ℕ))) (b d : List (Statement Name)) → SayEach a b → SayEach c d →
    SayEach (a ++ c) (b ++ d)
SayEach-append [] c [] d h k = k
SayEach-append [] c (said ∷ b) d h k = absurd h
SayEach-append (text ∷ a) c [] d h k = absurd h
SayEach-append (text ∷ a) c (said ∷ b) d h k = (h.0, SayEach-append a c b d h.1 k)

pub numbered_says : {A : Type 0} (Fits : A → Type 0) (top : ℕ) (line : ℕ → A → List (List ℕ)) (said : ℕ → A → Statement Name) →
    ((n : ℕ) (x : A) → n < top → Fits x → Says (joined (line n x)) (said n x)) →
    (n : ℕ) (xs : List A) → n + length xs ≤ top → AllByRecursion Fits xs →
    SayEach (numbered line n xs) (numbered said n xs)
numbered_says Fits top line said each n [] room h = tt
numbered_says Fits top line said each n (x ∷ xs) room h = grind (arith, numbered_says Fits top line said each (n + 1) xs (omega arith) h.1)

-- the pieces of the lines with their ends: nothing stands behind the last end
pieces_of-texts : (lines : List (List (List ℕ))) (all : List (Statement Name)) → SayEach lines all →
    slice_split is_line_end (flat_map line_text lines) ≡ map joined lines ++ ([] ∷ [])
pieces_of-texts (words ∷ lines) (said ∷ others) h = grind (arith, lines_of-ended, pieces_of-texts lines others h.1)
pieces_of-texts lines all h = grind (arith, lines_of-ended)

-- the lines of the texts with their ends
pub lines_of-texts : (lines : List (List (List ℕ))) (all : List (Statement Name)) → SayEach lines all →
    lines_of (flat_map line_text lines) ≡ map joined lines
lines_of-texts lines all h = ap without_empty_last (pieces_of-texts lines all h) ∙ without_empty_end (map joined lines)

pub say_in_order : (n : ℕ) (lines : List (List (List ℕ))) (all : List (Statement Name)) → SayEach lines all →
    SayInOrder n (map joined lines) (lines_from n all)
say_in_order n (words ∷ lines) (said ∷ others) h = grind (arith, say_in_order (n + 1) lines others h.1)
say_in_order n lines all h = grind arith

-- ---- statements

pub lines_from-flat_map : {B : Type 0} (f : Statement Name → List B) (n : ℕ) (all : List (Statement Name)) →
    flat_map (λ line. f line.statement) (lines_from n all) ≡ flat_map f all
lines_from-flat_map f n [] = refl
lines_from-flat_map f n (said ∷ others) = ap (λ rest. f said ++ rest) (lines_from-flat_map f (n + 1) others)

pub lines_from-list_all : (p : Statement Name → Bool) (n : ℕ) (all : List (Statement Name)) →
    list_all (λ line. p line.statement) (lines_from n all) ≡ list_all p all
lines_from-list_all p n [] = refl
lines_from-list_all p n (said ∷ others) = ap (λ rest. p said && rest) (lines_from-list_all p (n + 1) others)

pub numbered_all : {A : Type 0} (p : Statement Name → Bool) (said : ℕ → A → Statement Name) →
    ((n : ℕ) (x : A) → p (said n x) ≡ true) →
    (n : ℕ) (xs : List A) → list_all p (numbered said n xs) ≡ true
numbered_all p said each n [] = refl
numbered_all p said each n (x ∷ xs) = and_from (p (said n x)) _ (each n x) (numbered_all p said each (n + 1) xs)

pub numbered_none : {A B : Type 0} (f : Statement Name → List B) (said : ℕ → A → Statement Name) →
    ((n : ℕ) (x : A) → f (said n x) ≡ []) →
    (n : ℕ) (xs : List A) → flat_map f (numbered said n xs) ≡ []
numbered_none f said each n [] = refl
numbered_none f said each n (x ∷ xs) = λ i. each n x i ++ numbered_none f said each (n + 1) xs i

pub numbered_back : {A : Type 0} (f : Statement Name → List A) (said : ℕ → A → Statement Name) →
    ((n : ℕ) (x : A) → f (said n x) ≡ x ∷ []) →
    (n : ℕ) (xs : List A) → flat_map f (numbered said n xs) ≡ xs
numbered_back f said each n [] = refl
numbered_back f said each n (x ∷ xs) = λ i. each n x i ++ numbered_back f said each (n + 1) xs i
