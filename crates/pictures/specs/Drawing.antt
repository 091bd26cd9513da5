-- How a block is drawn choice by choice. Only proofs use this: no promise depends on it.
use Rattle.std.specs.Prelude.{◌≡◌, Bool, List, ℕ, [], ◌∷◌, ◌++◌, is_none}
use Rattle.assembler.specs.Symbols.{SymbolTable}
use Rattle.thread_machine.specs.{declared.choice.Choice.Choice, Execution.execution, World.World}
use Rattle.pictures.specs.{declared.sheet.Sheet.Sheet, Picture.choice_lines, Picture.lines_text}

-- the choices are drawn up to the first that is refused, and the world is the one after them
pub record Draws (sheet : Sheet) (symbols : SymbolTable) (first : ℕ) (before after : World) (choices : List Choice)
    (old new : List ℕ) : Type 0 where
  pub text : new ≡ old ++ lines_text sheet.width (choice_lines sheet symbols first before choices)
  pub world : after ≡ (execution before choices).world

-- the same for one choice, and whether it was accepted
pub record DrawsOne (sheet : Sheet) (symbols : SymbolTable) (first : ℕ) (before after : World) (choice : Choice)
    (accepted : Bool) (old new : List ℕ) : Type 0 where
  pub draws : Draws sheet symbols first before after (choice ∷ []) old new
  pub answer : accepted ≡ is_none (execution before (choice ∷ [])).refusal

-- this is drawn so far, and the rest is still to be drawn
pub record IsDrawing (sheet : Sheet) (symbols : SymbolTable) (first : ℕ) (begin now : World) (choices rest : List Choice)
    (old new : List ℕ) : Type 0 where
  pub drawn : List (List ℕ)
  pub lines : choice_lines sheet symbols first begin choices ≡ drawn ++ choice_lines sheet symbols first now rest
  pub text : new ≡ old ++ lines_text sheet.width drawn
  pub world : (execution begin choices).world ≡ (execution now rest).world
