-- What a row at a phaser waits for.
use Rattle.std.proofs.Common.{◌≡◌, ◌⊎◌, ℕ, arith}
use Rattle.assembler.specs.Symbols.{SymbolTable}
use Rattle.instruction_table.specs.declared.{register.Reg.Reg, row.Row.Row}
use Rattle.instruction_table.specs.declared.row.Row.TheVariants.{Paaa, Pawait, Pawaiti, Pawaitt}
use Rattle.machine_scene.specs.Scene.{Scene}
use Rattle.pictures.specs.{Picture.at_phaser, Picture.awaited_text, declared.sheet.Sheet.Sheet}

pub awaited_at : (sheet : Sheet) (symbols : SymbolTable) (scene : Scene) (t : ℕ) (row : Row) (p : ℕ)
    → ((x : Reg) × (row ≡ Paaa x p)) ⊎ (((x : Reg) × (y : Reg) × (row ≡ Pawait x p y))
    ⊎ (((x : Reg) × (y : Reg) × (row ≡ Pawaiti x p y))
    ⊎ ((x : Reg) × (y : Reg) × (z : Reg) × (row ≡ Pawaitt x p y z))))
    → awaited_text sheet symbols scene t row ≡ at_phaser sheet symbols scene t p
awaited_at sheet symbols scene t row p given = grind arith
