-- The picture of a run as a text, line by line. Each block of threads has a line with their names and a line for each choice.
-- Then follows a line for each thread that waits or died. No line is longer than the picture is wide.
use Rattle.std.specs.Prelude.{◌≡◌, ℕ, ℤ, zero, suc, ◌+◌, ◌-◌, ◌*◌, ◌/◌, ◌==◌, ◌&&◌, not, nat_lt, min, Bool, true, false, if◌then◌else◌, List, [], ◌∷◌, ◌++◌, length, take, flat_map, codes, decimal, Option, Some, None, slice_get}
use Rattle.std.specs.Fmt.{signed_decimal}
use Rattle.assembler.specs.Symbols.{SymbolTable}
use Rattle.cyclic_barrier.specs.{Barrier.BarrierState, Barrier.number_waiting, Waits.wait_at}
use Rattle.cyclic_barrier.specs.declared.answer.WaitState.{WaitState}
use Rattle.cyclic_barrier.specs.declared.answer.WaitState.TheVariants as state
use Rattle.instruction_table.specs.declared.{row.Row.Row, shape.OperandKind.OperandKind}
use Rattle.instruction_table.specs.declared.row.Row.TheVariants.{Paaa, Pawait, Pawaiti, Pawaitt, Cawait, Cawaitt}
use Rattle.instruction_table.specs.declared.shape.OperandKind.TheVariants as kind
use Rattle.loader.specs.Program.{row_at}
use Rattle.machine_scene.specs.{Outcomes.is_ready, Outcomes.outcome_of, PhaserRows.is_past}
use Rattle.machine_scene.specs.Scene.{Scene, thread_at}
use Rattle.thread_machine.specs.{declared.choice.Choice.Choice, declared.fault.StepFault.StepFault, Execution.execution}
use Rattle.thread_machine.specs.{Ready.can_expire, Ready.is_stuck, Step.Played, Step.played, Step.refusal_of, World.World}
use Rattle.thread_machine.specs.declared.fault.StepFault.TheVariants as fault
use Rattle.thread_state.specs.declared.{event.Event.Event, event.What.What, status.Status.Status}
use Rattle.thread_state.specs.declared.event.What.TheVariants as what
use Rattle.thread_state.specs.declared.status.Status.TheVariants as status
use Rattle.row_code.specs.declared.image.Image.{Image}
use Rattle.trace_text.specs.Start.{Begins}
use Rattle.packed_phaser.specs.Flat.{Flat}
use Rattle.tier_tree.specs.Forest.{PhaserState, flat_at, phaser_at}
use Rattle.pictures.specs.{declared.sheet.Sheet.Sheet, Caption.called, Caption.row_caption}
use Rattle.pictures.specs.Sheet.{column_room, kept_behind, mark_column, mark_room, number_text, other_blocks, put_at, sheet_of, shortened}
use Rattle.pictures.specs.Turn.{mark_words, marked, standing, turn_text}

-- ---- one line

-- a line with so many columns more, from the one of this number on
abbrev pub with_cells : (ℕ → List ℕ) → ℕ → ℕ → ℕ → List ℕ → List ℕ
with_cells cell width n zero line = line
with_cells cell width n (suc left) line = with_cells cell width (n + 1) left (put_at (8 + n * width) (cell n) line)

-- how many threads the block has that begins with this one
abbrev pub in_block : Sheet → ℕ → ℕ → ℕ
in_block sheet threads first = min sheet.beside (threads - first)

-- a line with the columns of a block after its beginning
abbrev pub block_line : Sheet → ℕ → ℕ → (ℕ → List ℕ) → List ℕ → List ℕ
block_line sheet threads first cell begin =
    with_cells (λ n. cell (first + n)) sheet.column 0 (in_block sheet threads first) begin

-- the sign of thread t in a world
abbrev pub standing_in : World → ℕ → List ℕ
standing_in world t = standing (is_ready t world.program world.scene) (thread_at world.scene t).status

-- in the column of the thread that had the turn, what it did; in the others the thread's sign
abbrev pub cell_in : World → ℕ → List ℕ → ℕ → List ℕ
cell_in world turn did t = if t == turn then did else standing_in world t

-- the line of a choice: its number, what it did, the signs of the other threads after it, and what follows the columns
abbrev pub choice_line : Sheet → ℕ → World → ℕ → ℕ → List ℕ → List ℕ → List ℕ
choice_line sheet first world number turn did told =
    put_at (mark_column sheet) told
    (block_line sheet (length world.scene.threads) first (cell_in world turn did) (number_text number))

-- ---- the lines of the choices

-- the line of a choice that was played in a world, with its event and the world after it
abbrev pub played_line : Sheet → SymbolTable → ℕ → World → Choice → Event → World → List ℕ
played_line sheet symbols first world choice event after =
    let row = row_caption symbols (row_at world.program.rows (thread_at world.scene choice.thread).pc) in
    choice_line sheet first after (world.choices + 1) choice.thread
    (turn_text (column_room sheet) row choice.expiry event.what)
    (kept_behind (mark_room sheet) (marked symbols event.mark) (mark_words event.mark))

-- the line of a choice that is refused: there is no such thread, or no step is left
abbrev pub refused_did : Sheet → List ℕ
refused_did sheet = shortened (column_room sheet) (codes "refused: limit")

abbrev pub refused_words : StepFault → ℕ → List ℕ
refused_words fault.NoSuchThread t = codes "no thread t" ++ decimal t
refused_words _ t = []

abbrev pub refused_line : Sheet → ℕ → World → Choice → StepFault → List ℕ
refused_line sheet first world choice why =
    choice_line sheet first world (world.choices + 1) choice.thread (refused_did sheet)
    (shortened (mark_room sheet) (refused_words why choice.thread))

-- the line of a choice, and the lines after it; a refused choice is the last
abbrev pub lines_by : Option StepFault → Sheet → SymbolTable → ℕ → World → Choice → (World → List (List ℕ)) → List (List ℕ)
lines_by (Some why) sheet symbols first world choice rest = refused_line sheet first world choice why ∷ []
lines_by None sheet symbols first world choice rest =
    let play : Played = played world choice in
    played_line sheet symbols first world choice play.event play.world ∷ rest play.world

abbrev pub choice_lines : Sheet → SymbolTable → ℕ → World → List Choice → List (List ℕ)
choice_lines sheet symbols first world [] = []
choice_lines sheet symbols first world (choice ∷ choices) =
    lines_by (refusal_of world choice) sheet symbols first world choice
    (λ after. choice_lines sheet symbols first after choices)

-- ---- a block

-- the line with the names of a block's threads
abbrev pub name_cell : Sheet → SymbolTable → ℕ → List ℕ
name_cell sheet symbols t = shortened (column_room sheet) (called symbols kind.Thread t)

abbrev pub names_line : Sheet → SymbolTable → World → ℕ → List ℕ
names_line sheet symbols world first =
    block_line sheet (length world.scene.threads) first (name_cell sheet symbols) (codes "choice")

abbrev pub block_lines : Sheet → SymbolTable → World → List Choice → ℕ → List (List ℕ)
block_lines sheet symbols world choices first =
    names_line sheet symbols world first ∷ choice_lines sheet symbols first world choices

-- the block of this number, if it isn't the last: an empty line follows it
abbrev pub other_block : Sheet → SymbolTable → World → List Choice → ℕ → List (List ℕ)
other_block sheet symbols world choices n = block_lines sheet symbols world choices (n * sheet.beside) ++ ([] ∷ [])

-- what is made for so many numbers, from this one on
abbrev pub each_from : {A : Type 0} → (ℕ → List A) → ℕ → ℕ → List A
each_from made n zero = []
each_from made n (suc left) = made n ++ each_from made (n + 1) left

-- ---- who waits at the end, and who died

-- how many parties have arrived, and how many there are
abbrev pub arrived_text : ℕ → ℕ → List ℕ
arrived_text arrived parties =
    codes " (" ++ (decimal arrived ++ (codes " of " ++ (decimal parties ++ codes " arrived)")))

-- the same after the name of a phaser above
abbrev pub above_text : ℕ → ℕ → List ℕ
above_text arrived parties = codes ": " ++ (decimal arrived ++ (codes " of " ++ (decimal parties ++ codes ")")))

-- how many have arrived at a barrier, or what released a thread that waited at it
abbrev pub wait_text : Option WaitState → BarrierState → List ℕ
wait_text (Some state.Tripped) barrier = codes " (tripped)"
wait_text (Some state.Broken) barrier = codes " (broken)"
wait_text _ barrier = arrived_text (number_waiting barrier) barrier.parties

abbrev pub barrier_wait : ℕ → Option BarrierState → List ℕ
barrier_wait t None = []
barrier_wait t (Some barrier) = wait_text (wait_at barrier.waits t) barrier

-- if all parties of a phaser have arrived, it has arrived at its parent, and a party is missing there or further up
abbrev pub have_all_arrived : Flat → Bool
have_all_arrived flat = not flat.ended && (not (flat.parties == 0) && (flat.arrived == flat.parties))

abbrev pub missing_above : List PhaserState → ℕ → ℕ → ℕ
missing_above phasers p zero = p
missing_above phasers p (suc levels) =
    if have_all_arrived (flat_at phasers p)
    then elim (slice_get (phaser_at phasers p).line 1) [ None ↦ p | Some parent ↦ missing_above phasers parent levels ]
    else p

-- the phaser at which the party is missing that a thread at this phaser waits for; a tree has at most 8 levels
abbrev pub missing_for : List PhaserState → ℕ → ℕ
missing_for phasers p = missing_above phasers p 8

-- the most bytes of a name: two of them and 46 bytes of other words fit into a line
abbrev pub name_room : Sheet → ℕ
name_room sheet = (sheet.width - 46) / 2

abbrev pub place_name : Sheet → SymbolTable → OperandKind → ℕ → List ℕ
place_name sheet symbols k number = shortened (name_room sheet) (called symbols k number)

-- how many have arrived at a phaser, if a party is missing here, or else the name of the phaser where one is missing
abbrev pub arrived_at : Sheet → SymbolTable → List PhaserState → ℕ → ℕ → List ℕ
arrived_at sheet symbols phasers p at =
    if at == p then arrived_text (flat_at phasers p).arrived (flat_at phasers p).parties
    else codes " (arrived at " ++ place_name sheet symbols kind.Phaser at

-- after that name, how many have arrived there
abbrev pub arrived_above : List PhaserState → ℕ → ℕ → List ℕ
arrived_above phasers p at =
    if at == p then [] else above_text (flat_at phasers at).arrived (flat_at phasers at).parties

-- a thread of this status waits
abbrev pub waits : Status → Bool
waits (status.AwaitsPhase phase) = true
waits (status.AwaitsBarrier index) = true
waits _ = false

-- whether the phase that a thread of this status awaits at phaser p has ended
abbrev pub has_ended : Status → ℕ → Scene → Bool
has_ended (status.AwaitsPhase phase) p scene = is_past p phase scene
has_ended _ p scene = false

-- a phaser or a barrier, and how many have arrived there while the wait of thread t goes on
abbrev pub at_phaser : Sheet → SymbolTable → Scene → ℕ → ℕ → List ℕ
at_phaser sheet symbols scene t p =
    place_name sheet symbols kind.Phaser p
    ++ (if nat_lt p (length scene.phasers)
    then (if has_ended (thread_at scene t).status p scene then codes " (its phase has ended)"
    else arrived_at sheet symbols scene.phasers p (missing_for scene.phasers p))
    else [])

abbrev pub behind_phaser : Scene → ℕ → ℕ → List ℕ
behind_phaser scene t p =
    if nat_lt p (length scene.phasers) && not (has_ended (thread_at scene t).status p scene)
    then arrived_above scene.phasers p (missing_for scene.phasers p) else []

abbrev pub at_barrier : Sheet → SymbolTable → Scene → ℕ → ℕ → List ℕ
at_barrier sheet symbols scene t b =
    place_name sheet symbols kind.Barrier b ++ barrier_wait t (slice_get scene.barriers b)

-- what thread t waits at, at this row
abbrev pub awaited_text : Sheet → SymbolTable → Scene → ℕ → Row → List ℕ
awaited_text sheet symbols scene t (Paaa into phaser) = at_phaser sheet symbols scene t phaser
awaited_text sheet symbols scene t (Pawait into phaser phase) = at_phaser sheet symbols scene t phaser
awaited_text sheet symbols scene t (Pawaiti into phaser phase) = at_phaser sheet symbols scene t phaser
awaited_text sheet symbols scene t (Pawaitt into phaser phase timeout) = at_phaser sheet symbols scene t phaser
awaited_text sheet symbols scene t (Cawait into barrier) = at_barrier sheet symbols scene t barrier
awaited_text sheet symbols scene t (Cawaitt into barrier timeout) = at_barrier sheet symbols scene t barrier
awaited_text sheet symbols scene t _ = []

abbrev pub behind_text : Scene → ℕ → Row → List ℕ
behind_text scene t (Paaa into phaser) = behind_phaser scene t phaser
behind_text scene t (Pawait into phaser phase) = behind_phaser scene t phaser
behind_text scene t (Pawaiti into phaser phase) = behind_phaser scene t phaser
behind_text scene t (Pawaitt into phaser phase timeout) = behind_phaser scene t phaser
behind_text scene t _ = []

-- the exception that a turn meets, if it does
abbrev pub thrown_in : What → Option ℤ
thrown_in (what.Throws code) = Some code
thrown_in _ = None

-- what a thread does whose turn ends its wait
abbrev pub end_text : Option ℤ → List ℕ
end_text None = codes ": can go on"
end_text (Some code) = codes ": throws " ++ signed_decimal code

-- how the thread's wait ends at its next turn, or else whether its time can run out, or the program is stuck
abbrev pub outlook_text : World → ℕ → List ℕ
outlook_text world t = elim (outcome_of t world.program world.scene) [
  | Some outcome ↦ end_text (thrown_in outcome.event.what)
  | None ↦ if can_expire t world.program world.scene then codes ": can expire"
      else (if is_stuck world then codes ": stuck" else [])
]

abbrev pub thread_caption : Sheet → SymbolTable → ℕ → List ℕ
thread_caption sheet symbols t = shortened (name_room sheet) (called symbols kind.Thread t)

-- the line of a thread that waits: if it is too long, the names in it are cut
abbrev pub waiting_line : Sheet → SymbolTable → World → ℕ → List ℕ
waiting_line sheet symbols world t =
    let row = row_at world.program.rows (thread_at world.scene t).pc in
    kept_behind sheet.width
    (thread_caption sheet symbols t ++ (codes " waits at " ++ awaited_text sheet symbols world.scene t row))
    (behind_text world.scene t row ++ outlook_text world t)

-- the line of a thread that died of an exception
abbrev pub dead_line : Sheet → SymbolTable → ℕ → ℤ → List ℕ
dead_line sheet symbols t code = thread_caption sheet symbols t ++ (codes " died of exception " ++ signed_decimal code)

abbrev pub closing_by : Sheet → SymbolTable → World → ℕ → Status → List (List ℕ)
closing_by sheet symbols world t (status.AwaitsPhase phase) = waiting_line sheet symbols world t ∷ []
closing_by sheet symbols world t (status.AwaitsBarrier index) = waiting_line sheet symbols world t ∷ []
closing_by sheet symbols world t (status.Died code) = dead_line sheet symbols t code ∷ []
closing_by sheet symbols world t _ = []

abbrev pub closing_of : Sheet → SymbolTable → World → ℕ → List (List ℕ)
closing_of sheet symbols world t = closing_by sheet symbols world t (thread_at world.scene t).status

-- the same for all threads
abbrev pub closing_lines : Sheet → SymbolTable → World → List (List ℕ)
closing_lines sheet symbols world = each_from (closing_of sheet symbols world) 0 (length world.scene.threads)

-- ---- all of it

-- the lines of a picture that is this wide
abbrev pub lines_on : Sheet → SymbolTable → World → List Choice → List (List ℕ)
lines_on sheet symbols world choices =
    let others = other_blocks sheet (length world.scene.threads) in
    each_from (other_block sheet symbols world choices) 0 others
    ++ (block_lines sheet symbols world choices (others * sheet.beside)
    ++ closing_lines sheet symbols (execution world choices).world)

-- a line as it is written: cut at the width, and with a line end
abbrev pub written_line : ℕ → List ℕ → List ℕ
written_line width line = take width line ++ codes "\n"

abbrev pub lines_text : ℕ → List (List ℕ) → List ℕ
lines_text width lines = flat_map (written_line width) lines

-- the picture of a run that begins at this world with these choices
abbrev pub picture : ℕ → SymbolTable → World → List Choice → List ℕ
picture width symbols world choices =
    lines_text width (lines_on (sheet_of width (length world.scene.threads)) symbols world choices)

-- the picture of an image's program, from its first world on
abbrev pub IsPictureOf : Image → ℕ → SymbolTable → List Choice → List ℕ → Type 0
IsPictureOf image width symbols choices text =
    (world : World) × (Begins image world × (text ≡ picture width symbols world choices))
