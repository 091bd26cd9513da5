-- The state text by its lines.
use Rattle.std.proofs.Common.{◌≡◌, ◌+◌, ◌*◌, ◌≤◌, ℕ, ℤ, pos, Bool, true, false, All, List, [], ◌∷◌, ◌++◌, length, length-append, codes, decimal, refl, arith, cond, flat_map, rules}
use Rattle.std.proofs.lemmas.List.Elements.{All-head, All-tail}
use Rattle.std.specs.{Fmt.signed_decimal, List.list_all}
use Rattle.instruction_table.specs.{declared.register.Reg.Reg, Registers.value_in}
use Rattle.packed_phaser.specs.Flat.{view_of, unarrived_of}
use Rattle.thread_state.specs.declared.{frame.Frame.Frame, frame.Entry.Entry, status.Status.Status}
use Rattle.thread_state.specs.{Frame.entry_of, Thread.ThreadState}
use Rattle.thread_state.specs.declared.frame.Entry.TheVariants as entry
use Rattle.thread_state.specs.declared.status.Status.TheVariants as status
use Rattle.tier_tree.specs.Forest.{PhaserState}
use Rattle.cyclic_barrier.specs.Barrier.{BarrierState, number_waiting}
use Rattle.thread_machine.specs.{World.World, Standing.name_of, Standing.standing_of, Ready.has_ended, Ready.is_stuck}
use Rattle.thread_machine.specs.declared.standing.Standing.TheVariants as standing
use Rattle.trace_text.specs.{Brief.IsBrief, Reading.HasNoLongLine, Reading.is_state_line}
use Rattle.trace_text.specs.State.{all_registers, barrier_text, cell_text, entry_text, numbered_texts, phaser_text, registers_text, stack_text, state_text, status_text, thread_text, value_text}
use Rattle.trace_text.proofs.WholeLines.{IsLine, IsPart, IsWhole, Line-after, Line-end, Part-append, Whole-append, Whole-line, Whole-nil, Whole-short, Whole-where, decimal-part, is_within, signed-part}

-- no LF within a text, however long it is
abbrev Within : List ℕ → Type 0
Within text = list_all is_within text ≡ true

whole-part : (text : List ℕ) → Within text → IsPart (length text) text
whole-part text within = record { within = within; few = omega arith }

literal : (n : ℕ) (text : List ℕ) → Within text → length text ≤ n → IsPart n text
literal n text within few = record { within = within; few = few }

texts-within : {A : Type 0} (text : A → List ℕ) → ((x : A) → Within (text x)) → (xs : List A) → Within (flat_map text xs)
texts-within text each [] = refl
texts-within text each (x ∷ xs) =
    (Part-append _ _ (text x) (flat_map text xs) (whole-part (text x) (each x))
    (whole-part (flat_map text xs) (texts-within text each xs))).within

texts-part : {A : Type 0} (text : A → List ℕ) → ((x : A) → Within (text x)) → (xs : List A)
    → IsPart (length (flat_map text xs)) (flat_map text xs)
texts-part text each xs = whole-part (flat_map text xs) (texts-within text each xs)

value-part : (value : ℤ) → IsPart 66 (value_text value)
value-part value = Part-append 1 65 (codes " ") (signed_decimal value) (literal 1 (codes " ") refl (omega arith)) (signed-part value)

word-part : (ended stuck : Bool) → IsPart 5 (name_of (cond ended standing.All (cond stuck standing.Stuck standing.Live)))
word-part true stuck = literal 5 (codes "all") refl (omega arith)
word-part false stuck = grind (arith, literal)

status-part : (s : Status) → IsPart 72 (status_text s)
status-part status.Runs = literal 72 (codes "runs") refl (omega arith)
status-part (status.Throws code) =
    Part-append 7 65 (codes "throws:") (signed_decimal code) (literal 7 (codes "throws:") refl (omega arith)) (signed-part code)
status-part status.Ended = literal 72 (codes "ended") refl (omega arith)
status-part (status.Died code) =
    Part-append 7 65 (codes "died:") (signed_decimal code) (literal 7 (codes "died:") refl (omega arith)) (signed-part code)
status-part _ = literal 72 (codes "waits") refl (omega arith)

entry-part : (e : Entry) → IsPart 66 (entry_text e)
entry-part (entry.Call row) = Part-append 2 64 (codes " C") (decimal row) (literal 2 (codes " C") refl (omega arith)) (decimal-part row)
entry-part (entry.Handler row) = Part-append 2 64 (codes " H") (decimal row) (literal 2 (codes " H") refl (omega arith)) (decimal-part row)
entry-part (entry.Advance root) = Part-append 2 64 (codes " A") (decimal root) (literal 2 (codes " A") refl (omega arith)) (decimal-part root)
entry-part (entry.Action barrier) =
    Part-append 2 64 (codes " X") (decimal barrier) (literal 2 (codes " X") refl (omega arith)) (decimal-part barrier)

interrupted-part : (interrupted : Bool) → IsPart 7 (cond interrupted (codes " 1 regs") (codes " 0 regs"))
interrupted-part true = literal 7 (codes " 1 regs") refl (omega arith)
interrupted-part false = literal 7 (codes " 0 regs") refl (omega arith)

-- texts of at most so many bytes each
texts-few : {A : Type 0} (text : A → List ℕ) → ((x : A) → length (text x) ≤ 66) → (xs : List A)
    → length (flat_map text xs) ≤ 66 * length xs
texts-few text each [] = omega arith
texts-few text each (x ∷ xs) = grind (arith, length-append, texts-few text each xs)

registers-few : (values : List ℤ) → length (registers_text values all_registers) ≤ 528
registers-few values =
    texts-few (λ (register : Reg). value_text (value_in values register)) (λ register. (value-part (value_in values register)).few)
    all_registers

-- a thread's line is short where its stack and what it put out are
thread_size : (values stack output entries : ℕ) → values ≤ 528 → stack ≤ 66 * entries → entries ≤ 64 → output ≤ 49152
    → 1 + (64 + (1 + (64 + (1 + (72 + (7 + (values + (6 + (stack + (4 + (output + 0))))))))))) ≤ 65536
thread_size values stack output entries a b c d = omega (arith, a, b, c, d)

thread-whole : (n : ℕ) (thread : ThreadState) → IsWhole (IsBrief thread) (thread_text n thread)
thread-whole n thread =
    let values = registers_text thread.registers all_registers in
    let stack = stack_text thread.stack in
    let output = flat_map value_text thread.output in
    let stack_few : length stack ≤ 66 * length thread.stack =
    texts-few (λ (frame : Frame). entry_text (entry_of frame)) (λ frame. (entry-part (entry_of frame)).few) thread.stack in
    Whole-line (IsBrief thread)
    (1 + (64 + (1 + (64 + (1 + (72 + (7 + (length values + (6 + (length stack + (4 + (length output + 0))))))))))))
    (thread_text n thread) []
    (λ brief. thread_size (length values) (length stack) (length output) (length thread.stack) (registers-few thread.registers)
    stack_few brief.stack brief.output)
    (Line-after 1 _ (codes "t") _ [] (literal 1 (codes "t") refl (omega arith))
    (Line-after 64 _ (decimal n) _ [] (decimal-part n)
    (Line-after 1 _ (codes " ") _ [] (literal 1 (codes " ") refl (omega arith))
    (Line-after 64 _ (decimal thread.pc) _ [] (decimal-part thread.pc)
    (Line-after 1 _ (codes " ") _ [] (literal 1 (codes " ") refl (omega arith))
    (Line-after 72 _ (status_text thread.status) _ [] (status-part thread.status)
    (Line-after 7 _ (cond thread.interrupted (codes " 1 regs") (codes " 0 regs")) _ [] (interrupted-part thread.interrupted)
    (Line-after (length values) _ values _ []
    (texts-part (λ (register : Reg). value_text (value_in thread.registers register))
    (λ register. (value-part (value_in thread.registers register)).within) all_registers)
    (Line-after 6 _ (codes " stack") _ [] (literal 6 (codes " stack") refl (omega arith))
    (Line-after (length stack) _ stack _ []
    (texts-part (λ (frame : Frame). entry_text (entry_of frame)) (λ frame. (entry-part (entry_of frame)).within) thread.stack)
    (Line-after 4 _ (codes " out") _ [] (literal 4 (codes " out") refl (omega arith))
    (Line-after (length output) 0 output (codes "\n") []
    (texts-part value_text (λ value. (value-part value).within) thread.output)
    (Line-end []))))))))))))) (Whole-nil (IsBrief thread))

phaser-whole : (n : ℕ) (phaser : PhaserState) → IsWhole (Unit {0}) (phaser_text n phaser)
phaser-whole n phaser =
    Whole-line (Unit {0}) 329 (phaser_text n phaser) [] (λ p. omega arith)
    (Line-after 1 328 (codes "p") _ [] (literal 1 (codes "p") refl (omega arith))
    (Line-after 64 264 (decimal n) _ [] (decimal-part n)
    (Line-after 66 198 (value_text (view_of phaser.flat)) _ [] (value-part (view_of phaser.flat))
    (Line-after 66 132 (value_text (pos phaser.flat.parties)) _ [] (value-part (pos phaser.flat.parties))
    (Line-after 66 66 (value_text (pos phaser.flat.arrived)) _ [] (value-part (pos phaser.flat.arrived))
    (Line-after 66 0 (value_text (pos (unarrived_of phaser.flat))) _ [] (value-part (pos (unarrived_of phaser.flat)))
    (Line-end []))))))) (Whole-nil (Unit {0}))

broken-line : (broken : Bool) → IsLine 2 (cond broken (codes " 1\n") (codes " 0\n")) []
broken-line true = record { line = codes " 1"; part = literal 2 (codes " 1") refl (omega arith); is = refl }
broken-line false = record { line = codes " 0"; part = literal 2 (codes " 0") refl (omega arith); is = refl }

barrier-whole : (n : ℕ) (barrier : BarrierState) → IsWhole (Unit {0}) (barrier_text n barrier)
barrier-whole n barrier =
    Whole-line (Unit {0}) 132 (barrier_text n barrier) [] (λ p. omega arith)
    (Line-after 1 131 (codes "b") _ [] (literal 1 (codes "b") refl (omega arith))
    (Line-after 64 67 (decimal n) _ [] (decimal-part n)
    (Line-after 1 66 (codes " ") _ [] (literal 1 (codes " ") refl (omega arith))
    (Line-after 64 2 (decimal (number_waiting barrier)) _ [] (decimal-part (number_waiting barrier))
    (broken-line barrier.broken))))) (Whole-nil (Unit {0}))

cell-whole_by : (none : Bool) (n : ℕ) (value : ℤ)
    → IsWhole (Unit {0}) (cond none [] (codes "c" ++ (decimal n ++ (value_text value ++ codes "\n"))))
cell-whole_by true n value = Whole-nil (Unit {0})
cell-whole_by false n value =
    Whole-line (Unit {0}) 131 _ [] (λ p. omega arith)
    (Line-after 1 130 (codes "c") _ [] (literal 1 (codes "c") refl (omega arith))
    (Line-after 64 66 (decimal n) _ [] (decimal-part n)
    (Line-after 66 0 (value_text value) _ [] (value-part value) (Line-end [])))) (Whole-nil (Unit {0}))

-- texts of lines that are short where each element is brief
numbered-whole : {A : Type 0} (brief : A → Type 0) (text : ℕ → A → List ℕ) → ((n : ℕ) (x : A) → IsWhole (brief x) (text n x))
    → (n : ℕ) (xs : List A) → IsWhole (All brief xs) (numbered_texts text n xs)
numbered-whole brief text each n [] = Whole-nil (All brief [])
numbered-whole brief text each n (x ∷ xs) =
    let all : Type 0 = All brief (x ∷ xs) in
    let rest = numbered_texts text (n + 1) xs in
    Whole-append all (text n x) rest (Whole-where (brief x) all (text n x) (All-head brief x xs) (each n x))
    (Whole-where (All brief xs) all rest (All-tail brief x xs) (numbered-whole brief text each (n + 1) xs))

-- texts of lines that are short of themselves
all-whole : {A : Type 0} (text : ℕ → A → List ℕ) → ((n : ℕ) (x : A) → IsWhole (Unit {0}) (text n x)) → (xs : List A) (short : Type 0)
    → IsWhole short (numbered_texts text 0 xs)
all-whole text each xs short =
    Whole-where (All (λ x. Unit {0}) xs) short (numbered_texts text 0 xs) (λ p k d there. tt)
    (numbered-whole (λ x. Unit {0}) text each 0 xs)

-- the lines behind the first
abbrev pub parts_text : World → List ℕ
parts_text world =
    numbered_texts thread_text 0 world.scene.threads
    ++ (numbered_texts phaser_text 0 world.scene.phasers
    ++ (numbered_texts barrier_text 0 world.scene.barriers
    ++ numbered_texts cell_text 0 world.scene.cells))

pub parts-whole : (world : World) → IsWhole (All IsBrief world.scene.threads) (parts_text world)
parts-whole world = search (rules, Whole-append, numbered-whole, thread-whole, all-whole, phaser-whole, barrier-whole, cell-whole_by)

-- the first line, behind its first word
counts-line : (world : World) → IsLine 135 (decimal world.choices ++ (codes " " ++ (decimal world.steps ++ (codes " "
    ++ (name_of (standing_of world) ++ (codes "\n" ++ parts_text world)))))) (parts_text world)
counts-line world =
    let rest = parts_text world in
    Line-after 64 71 (decimal world.choices) _ rest (decimal-part world.choices)
    (Line-after 1 70 (codes " ") _ rest (literal 1 (codes " ") refl (omega arith))
    (Line-after 64 6 (decimal world.steps) _ rest (decimal-part world.steps)
    (Line-after 1 5 (codes " ") _ rest (literal 1 (codes " ") refl (omega arith))
    (Line-after 5 0 (name_of (standing_of world)) _ rest (word-part (has_ended world) (is_stuck world)) (Line-end rest)))))

pub state-line : (world : World) → IsLine 141 (state_text world) (parts_text world)
state-line world =
    Line-after 6 135 (codes "state ") _ (parts_text world) (literal 6 (codes "state ") refl (omega arith)) (counts-line world)

pub state-whole : (world : World) → IsWhole (All IsBrief world.scene.threads) (state_text world)
state-whole world =
    Whole-line (All IsBrief world.scene.threads) 141 (state_text world) (parts_text world) (λ p. omega arith) (state-line world)
    (parts-whole world)

-- where no thread's stack or output is long, no line is
pub state-short : (world : World) → All IsBrief world.scene.threads → HasNoLongLine (state_text world)
state-short world brief = Whole-short (All IsBrief world.scene.threads) (state_text world) (state-whole world) brief

pub state-is_state : (world : World) → is_state_line (state-line world).line ≡ true
unfolding state-line
state-is_state world = refl
