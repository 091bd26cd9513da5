-- The program that a `Loaded` holds in its fields.
use Rattle.loader.specs.{Program.Program, Program.IsProgram, declared.loaded.Loaded.TheInside.Inside}

abbrev pub program_of : Inside → Program
program_of loaded = record {
  rows = loaded.rows.items;
  threads = loaded.threads.items;
  phasers = loaded.phasers;
  routines = loaded.routines.items;
  barriers = loaded.barriers.items;
  actions = loaded.actions.items;
}

abbrev pub IsProgramIn : Inside → Type 0
IsProgramIn loaded = IsProgram (program_of loaded)
