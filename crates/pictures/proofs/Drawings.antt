-- One choice more is drawn.
use Rattle.std.proofs.Common.{◌≡◌, ◌∙◌, ℕ, ◌+◌, ◌<◌, Bool, true, false, List, [], ◌∷◌, ◌++◌, Option, Some, None, ap, sym, append_assoc, length, get_or, drop, is_none, arith, rules}
use Rattle.std.proofs.lemmas.{List.drop_more, Grind.flat_map-append}
use Rattle.assembler.specs.Symbols.{SymbolTable}
use Rattle.thread_machine.specs.{declared.choice.Choice.Choice, declared.fault.StepFault.StepFault, World.World}
use Rattle.thread_machine.specs.{Execution.execution, Execution.execution_by, Step.Played, Step.played, Step.refusal_of}
use Rattle.pictures.specs.{declared.sheet.Sheet.Sheet, Drawing.Draws, Drawing.DrawsOne, Drawing.IsDrawing, Caption.row_caption}
use Rattle.pictures.specs.Picture.{choice_line, choice_lines, lines_by, lines_text, refused_line, written_line}
use Rattle.pictures.specs.{Sheet.column_room, Sheet.kept_behind, Sheet.mark_room, Turn.mark_words, Turn.marked, Turn.turn_text}
use Rattle.instruction_table.specs.declared.row.Row.{Row}
use Rattle.loader.specs.Program.{row_at}
use Rattle.machine_scene.specs.Scene.{thread_at}
use Rattle.thread_state.specs.declared.event.Event.{Event}

-- lines that were written, and then more
pub both_lines : (width : ℕ) (old mid new : List ℕ) (lines more : List (List ℕ)) → mid ≡ old ++ lines_text width lines
    → new ≡ mid ++ lines_text width more → new ≡ old ++ lines_text width (lines ++ more)
both_lines width old mid new lines more first second = grind (arith, append_assoc, flat_map-append)

-- from one choice on
pub choices-drop : (choices : List Choice) (i : ℕ) (d : Choice) → i < length choices
    → drop i choices ≡ get_or choices i d ∷ drop (i + 1) choices
choices-drop choices i d there = drop_more choices i d there

-- behind an accepted choice the others go on from the world that it leaves
accepted-lines : (refusal : Option StepFault) (sheet : Sheet) (symbols : SymbolTable) (first : ℕ) (world : World) (choice : Choice)
    (more : List Choice) → is_none refusal ≡ true
    → (lines_by refusal sheet symbols first world choice (λ after. choice_lines sheet symbols first after more)
    ≡ lines_by refusal sheet symbols first world choice (λ after. [])
    ++ choice_lines sheet symbols first (execution_by refusal world choice (λ after. execution after [])).world more)
    × ((execution_by refusal world choice (λ after. execution after more)).world
    ≡ (execution (execution_by refusal world choice (λ after. execution after [])).world more).world)
accepted-lines refusal sheet symbols first world choice more none = grind arith

-- whether a choice was accepted
answer_by : (refusal : Option StepFault) (world : World) (choice : Choice)
    → (execution_by refusal world choice (λ after. execution after [])).refusal ≡ refusal
answer_by refusal world choice = grind arith

-- an accepted choice
pub IsDrawing-next : (sheet : Sheet) (symbols : SymbolTable) (first : ℕ) (begin now after : World) (choices rest more : List Choice)
    (choice : Choice) (accepted : Bool) (old mid new : List ℕ) → rest ≡ choice ∷ more
    → IsDrawing sheet symbols first begin now choices rest old mid
    → DrawsOne sheet symbols first now after choice accepted mid new → accepted ≡ true
    → IsDrawing sheet symbols first begin after choices more old new
IsDrawing-next sheet symbols first begin now after choices rest more choice accepted old mid new is so_far one accepts =
    let refusal = refusal_of now choice in
    let none : is_none refusal ≡ true = ap is_none (sym (answer_by refusal now choice)) ∙ sym one.answer ∙ accepts in
    let both = accepted-lines refusal sheet symbols first now choice more none in
    let line = choice_lines sheet symbols first now (choice ∷ []) in
    let lines : choice_lines sheet symbols first begin choices
    ≡ so_far.drawn ++ (line ++ choice_lines sheet symbols first after more) =
    so_far.lines ∙ ap (λ cs. so_far.drawn ++ choice_lines sheet symbols first now cs) is
    ∙ ap (λ ls. so_far.drawn ++ ls) both.0
    ∙ ap (λ world. so_far.drawn ++ (line ++ choice_lines sheet symbols first world more)) (sym one.draws.world) in
    record {
      drawn = so_far.drawn ++ line;
      lines = lines ∙ sym (append_assoc so_far.drawn line (choice_lines sheet symbols first after more));
      text = both_lines sheet.width old mid new so_far.drawn line so_far.text one.draws.text;
      world = so_far.world ∙ ap (λ cs. (execution now cs).world) is ∙ both.1
          ∙ ap (λ world. (execution world more).world) (sym one.draws.world);
    }

-- a refused choice
pub IsDrawing-refused : (sheet : Sheet) (symbols : SymbolTable) (first : ℕ) (begin now after : World) (choices rest more : List Choice)
    (choice : Choice) (accepted : Bool) (old mid new : List ℕ) → rest ≡ choice ∷ more
    → IsDrawing sheet symbols first begin now choices rest old mid
    → DrawsOne sheet symbols first now after choice accepted mid new → accepted ≡ false
    → Draws sheet symbols first begin after choices old new
IsDrawing-refused sheet symbols first begin now after choices rest more choice accepted old mid new is so_far one refuses =
    grind (arith, answer_by, both_lines)

-- a choice that was played
pub DrawsOne-played : (sheet : Sheet) (symbols : SymbolTable) (first number : ℕ) (world after : World) (choice : Choice) (event : Event)
    (row : Row) (old new : List ℕ) → refusal_of world choice ≡ None
    → (let both : Played = record { world = after; event = event } in both ≡ played world choice)
    → number ≡ world.choices + 1
    → row ≡ row_at world.program.rows (thread_at world.scene choice.thread).pc
    → new ≡ old ++ (written_line sheet.width (choice_line sheet first after number choice.thread
    (turn_text (column_room sheet) (row_caption symbols row) choice.expiry event.what)
    (kept_behind (mark_room sheet) (marked symbols event.mark) (mark_words event.mark))))
    → DrawsOne sheet symbols first world after choice true old new
DrawsOne-played sheet symbols first number world after choice event row old new accepted both number_is row_is written = search rules

-- a choice that was refused
pub DrawsOne-refused : (sheet : Sheet) (symbols : SymbolTable) (first : ℕ) (world after : World) (choice : Choice) (why : StepFault)
    (old new : List ℕ) → refusal_of world choice ≡ Some why → after ≡ world
    → new ≡ old ++ (written_line sheet.width (refused_line sheet first world choice why))
    → DrawsOne sheet symbols first world after choice false old new
DrawsOne-refused sheet symbols first world after choice why old new refused same written = search rules
