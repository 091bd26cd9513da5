-- An image as the bytes of its file.
use Rattle.std.specs.Prelude.{ℕ, Bool, true, false, List, ◌++◌, length, codes}
use Rattle.std.specs.List.{flat_map}
use Rattle.row_code.specs.{declared.image.Counts.Counts, declared.image.Image.Image, Number.u16_bytes, RowBytes.bytes_of}
use Rattle.row_code.specs.{Phasers.ArePhasers, Phasers.phaser_bytes, Barriers.AreBarriers, Barriers.barrier_bytes}
use Rattle.row_code.specs.{Threads.AreThreads, Threads.thread_bytes, Rows.AreRows, Rows.has_timed_row}

-- each list of an image is within its limits
pub record IsImage (i : Image) : Type 0 where
  pub phasers : ArePhasers i.phasers
  pub barriers : AreBarriers i.barriers
  pub threads : AreThreads i.threads
  pub rows : AreRows i.rows

-- what an image begins with: it says whether there is a row with a timeout
abbrev pub magic : Bool → List ℕ
magic false = codes "PBW1"
magic true = codes "PBW2"

-- how many of each there are
abbrev pub counts_of : Image → Counts
counts_of i = record {
  phasers = length i.phasers;
  barriers = length i.barriers;
  threads = length i.threads;
  rows = length i.rows;
}

abbrev pub count_bytes : Counts → List ℕ
count_bytes c =
    u16_bytes c.phasers ++ (u16_bytes c.barriers ++ (u16_bytes c.threads ++ u16_bytes c.rows))

-- the lists after the counts
abbrev pub list_bytes : Image → List ℕ
list_bytes i =
    flat_map phaser_bytes i.phasers ++ (flat_map barrier_bytes i.barriers
    ++ (flat_map thread_bytes i.threads ++ flat_map bytes_of i.rows))

-- the one spelling of an image
abbrev pub image_bytes : Image → List ℕ
image_bytes i = (magic (has_timed_row i.rows) ++ count_bytes (counts_of i)) ++ list_bytes i
