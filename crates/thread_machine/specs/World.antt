-- The whole state of a machine.
use Rattle.std.specs.Prelude.{◌≡◌, ℕ}
use Rattle.row_code.specs.declared.image.Image.{Image}
use Rattle.loader.specs.{Declarations.forest_of, Program.Program, Program.program_of, Program.without_words}
use Rattle.machine_scene.specs.Scene.{Scene, StoredScene, scene_of, first_scene}

-- the program, how many effective steps it may take, what its rows act on, and the counts of choices and of effective steps
pub record World : Type 0 where
  pub program : Program
  pub limit : ℕ
  pub scene : Scene
  pub choices : ℕ
  pub steps : ℕ

-- the same with the phasers as they are stored, which a step back restores word for word
pub record StoredWorld : Type 0 where
  pub program : Program
  pub limit : ℕ
  pub scene : StoredScene
  pub choices : ℕ
  pub steps : ℕ

-- what it shows; everything but a step back is about this
abbrev pub world_of : StoredWorld → World
world_of stored = record {
  program = stored.program;
  limit = stored.limit;
  scene = scene_of stored.scene;
  choices = stored.choices;
  steps = stored.steps;
}

-- the world before the first choice
abbrev pub first_world : Program → ℕ → World
first_world program limit = record {
  program = program;
  limit = limit;
  scene = first_scene program;
  choices = 0;
  steps = 0;
}

-- the world before the first choice of the program that an image declares, with at most so many effective steps
abbrev pub first_of : Image → ℕ → World
first_of image limit = record {
  program = program_of image;
  limit = limit;
  scene = record (first_scene (program_of image)) { phasers = forest_of image.phasers };
  choices = 0;
  steps = 0;
}

-- a program begins in this world: the image's first, except for how the program's phasers are stored
abbrev pub IsFirstOf : Image → ℕ → World → Type 0
IsFirstOf image limit world = record world { program = without_words world.program } ≡ first_of image limit
