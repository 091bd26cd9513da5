-- The words of a text, one after another.
use Rattle.std.proofs.Common.{◌≡◌, ◌<◌, ◌≤◌, ◌+◌, ℕ, List, [], ◌∷◌, ◌++◌, length, map, sym, ap, ◌∙◌, subst, append_assoc, append-nil}
use Rattle.std.proofs.lemmas.List.{map_push}
use Rattle.std.specs.{Borrow.Bor, Str.NoCharPasses, Str.Iter.IsAsciiSeparator, List.AllPass, Char.is_ascii_whitespace}
use Rattle.vuthgal_c.specs.Words.{AreWordsOf}

-- words before those of the rest of a text are those of the text
abbrev pub ComeBefore : (text rest : List ℕ) → List (Bor (List ℕ)) → Type 0
ComeBefore text rest seen = (more : List (List ℕ)) → AreWordsOf rest more → AreWordsOf text (map (λ w. w.now) seen ++ more)

pub one_more : (text rest next : List ℕ) (seen : List (Bor (List ℕ))) (word : Bor (List ℕ)) → ComeBefore text rest seen
    → (0 < length word.now) × NoCharPasses is_ascii_whitespace word.now × (length word.now + length next ≤ length rest)
    × ((gap : List ℕ) × (sep : List ℕ) × (rest ≡ gap ++ (word.now ++ (sep ++ next))) × AllPass is_ascii_whitespace gap × IsAsciiSeparator sep next)
    → ComeBefore text next (seen ++ word ∷ [])
one_more text rest next seen word before cut = λ more are.
    subst (AreWordsOf text) (sym (append_assoc (map (λ w. w.now) seen) (word.now ∷ []) more) ∙ ap (λ ws. ws ++ more) (sym (map_push (λ (w : Bor (List ℕ)). w.now) seen word)))
    (before (word.now ∷ more) (cut.0, cut.1, cut.3.0, cut.3.1, next, cut.3.2, cut.3.3, cut.3.4.0, cut.3.4.2, are))

pub all_seen : (text rest : List ℕ) (seen : List (Bor (List ℕ))) → ComeBefore text rest seen → AllPass is_ascii_whitespace rest
    → AreWordsOf text (map (λ w. w.now) seen)
all_seen text rest seen before none = subst (AreWordsOf text) (append-nil (map (λ w. w.now) seen)) (before [] none)
