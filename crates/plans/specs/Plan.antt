-- The words of a plan's whole text, or its first fault.
use Rattle.std.specs.Prelude.{ℕ, ◌+◌, ◌-◌, ◌==◌, nat_le, if◌then◌else◌, Bool, true, false, List, [], ◌∷◌, ◌++◌, Result, Ok, Err}
use Rattle.std.specs.List.{slice_split}
use Rattle.row_code.specs.Answers.{Answers, ◌>>=◌}
use Rattle.line_reader.specs.Words.{is_line_end}
use Rattle.plans.specs.declared.{fault.PlanFault.PlanFault, fault.PlanFaultKind.PlanFaultKind, word.Word.Word}
use Rattle.plans.specs.{Words.words_of, Reading.Name, Reading.Said, Reading.word_of}
use Rattle.plans.specs.declared.fault.PlanFaultKind.TheVariants as fault
use Rattle.plans.specs.declared.word.Word.TheVariants as word

-- the words so far, how many parentheses are open, and the line of the outermost of them
pub record Draft : Type 0 where
  pub words : List Word
  pub depth : ℕ
  pub opened : ℕ

abbrev pub no_words : Draft
no_words = record { words = []; depth = 0; opened = 0 }

-- after `(` in this line one more is open
abbrev pub draft_opened : ℕ → Draft → Said Draft
draft_opened line draft =
    if nat_le 16 draft.depth then Err fault.TooDeep
    else Ok (record draft {
      depth = draft.depth + 1;
      opened = if draft.depth == 0 then line else draft.opened;
    })

-- after `)` one less is open
abbrev pub draft_closed : Draft → Said Draft
draft_closed draft =
    if draft.depth == 0 then Err fault.NotOpened else Ok (record draft { depth = draft.depth - 1 })

-- the parentheses after a word in this line
abbrev pub draft_open : ℕ → Draft → Word → Said Draft
draft_open line draft (word.Step step) = Ok draft
draft_open line draft word.Open = draft_opened line draft
draft_open line draft (word.Close times) = draft_closed draft

-- one more word
abbrev pub with_word : Word → Draft → Said Draft
with_word word draft = Ok (record draft { words = draft.words ++ word ∷ [] })

abbrev pub placed : ℕ → Said Draft → Result Draft PlanFault
placed line (Ok draft) = Ok draft
placed line (Err kind) = Err (record { line = line; kind = kind })

abbrev pub said_behind : List Name → ℕ → Draft → List ℕ → Said Draft
said_behind names line draft bytes =
    word_of names bytes >>= (λ word. draft_open line draft word >>= with_word word)

abbrev pub word_behind : List Name → ℕ → Draft → List ℕ → Result Draft PlanFault
word_behind names line draft bytes =
    placed line (said_behind names line draft bytes)

-- the words of a line, each after those before it, up to the first that is faulty
abbrev pub words_behind : List Name → ℕ → Draft → List (List ℕ) → Result Draft PlanFault
words_behind names line draft [] = Ok draft
words_behind names line draft (bytes ∷ words) =
    word_behind names line draft bytes >>= (λ after. words_behind names line after words)

-- the lines from this number on
abbrev pub lines_behind : List Name → ℕ → Draft → List (List ℕ) → Result Draft PlanFault
lines_behind names line draft [] = Ok draft
lines_behind names line draft (bytes ∷ lines) =
    words_behind names line draft (words_of bytes) >>= (λ after. lines_behind names (line + 1) after lines)

-- at the end no parenthesis is open
abbrev pub finished : Draft → Result (List Word) PlanFault
finished draft =
    if draft.depth == 0 then Ok draft.words else Err (record { line = draft.opened; kind = fault.NotClosed })

abbrev pub words_in_lines : List Name → List (List ℕ) → Result (List Word) PlanFault
words_in_lines names lines = lines_behind names 1 no_words lines >>= finished

-- the words of a text, or its first fault
abbrev pub words_in_plan : List Name → List ℕ → Result (List Word) PlanFault
words_in_plan names text = words_in_lines names (slice_split is_line_end text)

-- whether a fault is `Memory`, which can be in place of any result
abbrev pub is_memory : PlanFaultKind → Bool
is_memory fault.Memory = true
is_memory _ = false

-- what was returned, by its view, is what is read, unless memory was refused
abbrev pub AnswersSaid : {X Y : Type 0} → (X → Y) → Said X → Said Y → Type 0
AnswersSaid view answered read = Answers is_memory view answered read

abbrev pub AnswersPlan : {X Y : Type 0} → (X → Y) → Result X PlanFault → Result Y PlanFault → Type 0
AnswersPlan view answered read = Answers (λ e. is_memory e.kind) view answered read
