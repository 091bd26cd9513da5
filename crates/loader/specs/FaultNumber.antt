-- The number with which each load fault is reported.
use Rattle.std.specs.Prelude.{ℕ, Option, Some, None}
use Rattle.loader.specs.declared.load_fault.LoadFault.{LoadFault}
use Rattle.loader.specs.declared.load_fault.LoadFault.TheVariants as fault

-- the number of a fault of the loader; missing memory is none of the program
abbrev pub load_number : LoadFault → Option ℕ
load_number (fault.Target place) = Some 1
load_number fault.FallsOff = Some 2
load_number (fault.NoSuchPhaser row) = Some 3
load_number (fault.NoSuchBarrier row) = Some 4
load_number (fault.NoSuchThread row) = Some 5
load_number (fault.NoSuchCell row) = Some 6
load_number (fault.Declare phaser why) = Some 7
load_number (fault.BarrierParties barrier) = Some 8
load_number fault.NoThread = Some 9
load_number fault.Memory = None
