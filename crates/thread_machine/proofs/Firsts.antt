-- A program of an image begins in the image's first world, however its phasers are stored.
use Rattle.std.proofs.Common.{ℕ, arith}
use Rattle.row_code.specs.declared.image.Image.{Image}
use Rattle.loader.specs.Program.{Program, IsProgramOf}
use Rattle.loader.proofs.{Images.is_declared, Whole.declared_by}
use Rattle.thread_machine.specs.World.{IsFirstOf, first_world}

-- the first world of this program, with these phasers
pub is_first : (image : Image) (program : Program) (limit : ℕ) → IsProgramOf image program
    → IsFirstOf image limit (first_world program limit)
is_first image program limit is = grind (arith, is_declared, declared_by)
