-- How a program begins, or why it is refused.
use Rattle.std.specs.Prelude.{◌≡◌, Bool, true, false, Some, None}
use Rattle.row_code.specs.declared.image.Image.{Image}
use Rattle.loader.specs.{declared.load_fault.LoadFault.LoadFault, Fault.first_fault}
use Rattle.loader.specs.declared.load_fault.LoadFault.TheVariants as fault
use Rattle.tier_tree.specs.declared.fault.DeclareFault.TheVariants as declare
use Rattle.thread_machine.specs.World.{World, IsFirstOf}

-- an image without a fault begins in this world, and may take at most 1,000,000,000 effective steps from there
abbrev pub Begins : Image → World → Type 0
Begins image world = (first_fault image ≡ None) × IsFirstOf image 1000000000 world

-- why an image isn't loaded
abbrev pub IsRefused : LoadFault → Image → Type 0
IsRefused fault image = first_fault image ≡ Some fault

-- out of memory, for the whole or for one phaser: not a fault of the image
abbrev pub is_want_of_memory : LoadFault → Bool
is_want_of_memory fault.Memory = true
is_want_of_memory (fault.Declare n declare.Memory) = true
is_want_of_memory _ = false
