-- The text of a machine's state, which ends a trace.
use Rattle.std.specs.Prelude.{ℕ, ℤ, pos, ◌+◌, if◌then◌else◌, List, [], ◌∷◌, ◌++◌, codes, decimal, flat_map}
use Rattle.std.specs.{Fmt.signed_decimal, Ordering.int_eq}
use Rattle.instruction_table.specs.{declared.register.Reg.Reg, Registers.value_in}
use Rattle.instruction_table.specs.declared.register.Reg.TheVariants.{R0, R1, R2, R3, R4, R5, R6, R7}
use Rattle.packed_phaser.specs.Flat.{view_of, unarrived_of}
use Rattle.thread_state.specs.declared.{frame.Frame.Frame, frame.Entry.Entry, status.Status.Status}
use Rattle.thread_state.specs.{Frame.entry_of, Thread.ThreadState}
use Rattle.thread_state.specs.declared.frame.Entry.TheVariants as entry
use Rattle.thread_state.specs.declared.status.Status.TheVariants as status
use Rattle.tier_tree.specs.Forest.{PhaserState}
use Rattle.cyclic_barrier.specs.Barrier.{BarrierState, number_waiting}
use Rattle.thread_machine.specs.{World.World, Standing.standing_of, Standing.name_of}

-- a status; of a wait it isn't said for what
abbrev pub status_text : Status → List ℕ
status_text status.Runs = codes "runs"
status_text (status.Throws code) = codes "throws:" ++ signed_decimal code
status_text (status.AwaitsPhase phase) = codes "waits"
status_text (status.AwaitsBarrier index) = codes "waits"
status_text status.Ended = codes "ended"
status_text (status.Died code) = codes "died:" ++ signed_decimal code

-- a stack entry, with the space before it
abbrev pub entry_text : Entry → List ℕ
entry_text (entry.Call row) = codes " C" ++ decimal row
entry_text (entry.Handler row) = codes " H" ++ decimal row
entry_text (entry.Advance root) = codes " A" ++ decimal root
entry_text (entry.Action barrier) = codes " X" ++ decimal barrier

-- the entries of a stack, without what they saved
abbrev pub stack_text : List Frame → List ℕ
stack_text stack = flat_map (λ (frame : Frame). entry_text (entry_of frame)) stack

-- the elements one after another, each by its number, from this one on, and its text
abbrev pub numbered_texts : {A : Type 0} → (ℕ → A → List ℕ) → ℕ → List A → List ℕ
numbered_texts text n [] = []
numbered_texts text n (x ∷ xs) = text n x ++ numbered_texts text (n + 1) xs

-- a number with the space before it
abbrev pub value_text : ℤ → List ℕ
value_text value = codes " " ++ signed_decimal value

-- a thread's eight registers in order
abbrev pub all_registers : List Reg
all_registers = R0 ∷ R1 ∷ R2 ∷ R3 ∷ R4 ∷ R5 ∷ R6 ∷ R7 ∷ []

-- the numbers in these registers
abbrev pub registers_text : List ℤ → List Reg → List ℕ
registers_text values registers = flat_map (λ (register : Reg). value_text (value_in values register)) registers

-- the line of a thread
abbrev pub thread_text : ℕ → ThreadState → List ℕ
thread_text n thread =
    codes "t" ++ (decimal n ++ (codes " " ++ (decimal thread.pc ++ (codes " " ++ (status_text thread.status
    ++ ((if thread.interrupted then codes " 1 regs" else codes " 0 regs") ++ (registers_text thread.registers all_registers
    ++ (codes " stack" ++ (stack_text thread.stack ++ (codes " out" ++ (flat_map value_text thread.output ++ codes "\n")))))))))))

-- the line of a phaser
abbrev pub phaser_text : ℕ → PhaserState → List ℕ
phaser_text n phaser =
    codes "p" ++ (decimal n ++ (value_text (view_of phaser.flat) ++ (value_text (pos phaser.flat.parties)
    ++ (value_text (pos phaser.flat.arrived) ++ (value_text (pos (unarrived_of phaser.flat)) ++ codes "\n")))))

-- the line of a barrier: how many threads wait, and whether it is broken
abbrev pub barrier_text : ℕ → BarrierState → List ℕ
barrier_text n barrier =
    codes "b" ++ (decimal n ++ (codes " " ++ (decimal (number_waiting barrier)
    ++ (if barrier.broken then codes " 1\n" else codes " 0\n"))))

-- the line of a cell, or nothing if the cell is 0
abbrev pub cell_text : ℕ → ℤ → List ℕ
cell_text n value =
    if int_eq value (pos 0) then [] else codes "c" ++ (decimal n ++ (value_text value ++ codes "\n"))

-- the state of the machine
abbrev pub state_text : World → List ℕ
state_text world =
    codes "state " ++ (decimal world.choices ++ (codes " " ++ (decimal world.steps ++ (codes " " ++ (name_of (standing_of world) ++ (codes "\n"
    ++ (numbered_texts thread_text 0 world.scene.threads
    ++ (numbered_texts phaser_text 0 world.scene.phasers
    ++ (numbered_texts barrier_text 0 world.scene.barriers
    ++ numbered_texts cell_text 0 world.scene.cells)))))))))
