-- What `vuthgal_explain` promises.
use Rattle.std.specs.Prelude.{◌≡◌, ◌⊎◌, ◌<◌, ℕ, Bool, true, false, IsTrue, IfErr, List, [], length, Option, Some, Result, Ok, Err}
use Rattle.std.specs.{Borrow.Bor, Str.IsUtf8, Io.KnownBytes.Appends}
use Rattle.refusals.specs.{Explained.HasExplained, Question.AsksFor, Word.AreNoWord, declared.entry.Entry.Entry}
use Rattle.refusals.specs.declared.question.Question.{Question}
use Rattle.workbench.specs.{declared.fault.Fault.Fault, Done.IsSettled}
use Rattle.workbench.specs.declared.fault.Fault.TheVariants as fault
use Rattle.vuthgal_c.specs.Words.{AreWordsOf}

-- a text means nothing: it isn't UTF-8, or no line has its words, nor has the language its word
abbrev pub MeansNothing : List (Bor (List Entry)) → (text : List ℕ) → Type 0
MeansNothing tables text =
    (IsUtf8 text → ⊥)
    ⊎ ((words : List (List ℕ)) × AreWordsOf text words × ((q : Question) → AsksFor tables words q → ⊥) × AreNoWord words)

-- how many bytes a text may have
abbrev pub most_explained : ℕ
most_explained = 65536

-- what a text's words mean, by these tables of entries, was written; or they mean nothing, and nothing was; or there was no memory,
-- or the text is too long, or the output has failed
pub record ExplainsText (tables : List (Bor (List Entry))) (questions text : List ℕ) (answer : Result Bool Fault)
    (output_before output_after : Option (List ℕ)) (output_failed : Bool) : Type 0 where
  pub told : answer ≡ Ok true
      → (words : List (List ℕ)) × AreWordsOf text words × HasExplained questions tables words output_before output_after
  pub none : answer ≡ Ok false → MeansNothing tables text × (output_after ≡ output_before)
  pub limit : most_explained < length text → answer ≡ Err fault.Read
  pub fault : IfErr answer (λ f. (((f ≡ fault.Memory) ⊎ ((f ≡ fault.Read) × (most_explained < length text)))
      × (output_after ≡ output_before)) ⊎ ((f ≡ fault.Write) × IsTrue output_failed))

-- the status of the result for words, and its line, which says if they mean nothing
abbrev pub SettlesExplaining : (no_line : List ℕ) → Result Bool Fault → (status : ℕ) (line_failed : Bool)
    (line_before line_after : Option (List ℕ)) → Type 0
SettlesExplaining no_line (Ok true) status line_failed line_before line_after = (status ≡ 0) × (line_after ≡ line_before)
SettlesExplaining no_line (Ok false) status line_failed line_before line_after =
    (status ≡ 2) × (IsTrue line_failed ⊎ Appends line_before line_after no_line)
SettlesExplaining no_line (Err f) status line_failed line_before line_after =
    IsSettled (Err f) status line_failed line_before line_after

abbrev pub Explains : (questions no_line text : List ℕ) → (status : ℕ) (told line : List ℕ) → Type 0
Explains questions no_line text status told line =
    (tables : List (Bor (List Entry))) × ((answer : Result Bool Fault) × (ExplainsText tables questions text answer (Some []) (Some told) false
    × SettlesExplaining no_line answer status false (Some []) (Some line)))
