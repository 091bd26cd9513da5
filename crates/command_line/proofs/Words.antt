-- What the getters of the matches give, by the rows of the matches.
use Rattle.std.proofs.Common.{◌≡◌, ◌∙◌, List, [], Option, Some, None, refl, ap, map, option_map, unwrap_or}
use Rattle.std.specs.Borrow.{Bor}
use Rattle.clap.specs.Words.{Row, Text, matched_of, raw_values, rows_of}
use Rattle.clap.specs.declared.parser.matches.Found.{Found}
use Rattle.clap.proofs.WalkLemmas.{raw_values-rows}
use Rattle.command_line.specs.Request.{given, word_of, words_of}

unwrapped : (text : Option (Bor Text)) (empty : Bor Text) → empty.now ≡ []
    → (unwrap_or text empty).now ≡ unwrap_or (option_map (λ s. s.now) text) []
unwrapped None empty is = is
unwrapped (Some text) empty is = refl

-- the word in a place, or an empty one
pub word-got : (rows : List Row) (place : Text) (text : Option (Bor Text)) (empty : Bor Text) → empty.now ≡ []
    → option_map (λ s. s.now) text ≡ given place rows → (unwrap_or text empty).now ≡ word_of place rows
word-got rows place text empty is got = unwrapped text empty is ∙ ap (λ t. unwrap_or t []) got

several-unwrapped : (texts : Option (Bor (List (Bor Text)))) (empty : Bor (List (Bor Text))) → empty.now ≡ []
    → map (λ (v : Bor Text). v.now) (unwrap_or texts empty).now ≡ unwrap_or (option_map (λ s. map (λ (v : Bor Text). v.now) s.now) texts) []
several-unwrapped None empty is = ap (map (λ (v : Bor Text). v.now)) is
several-unwrapped (Some texts) empty is = refl

-- the words in a place, by what `get_strs` gives
pub words-got : (found : Found) (place : Text) (texts : Option (Bor (List (Bor Text)))) (empty : Bor (List (Bor Text))) → empty.now ≡ []
    → option_map (λ s. map (λ (v : Bor Text). v.now) s.now) texts ≡ option_map raw_values (matched_of found place)
    → map (λ (v : Bor Text). v.now) (unwrap_or texts empty).now ≡ words_of place (rows_of found)
words-got found place texts empty is got =
    several-unwrapped texts empty is ∙ ap (λ t. unwrap_or t []) (got ∙ raw_values-rows found place)
