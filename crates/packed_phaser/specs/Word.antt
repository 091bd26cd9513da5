-- Which 64-bit numbers are words, and which state of a phaser each word represents.
use Rattle.std.specs.Prelude.{ℕ, ◌-◌, ◌/◌, ◌%◌, ◌^◌, ◌<◌, ◌≤◌, ◌==◌, ◌&&◌, not, max, if◌then◌else◌}
use Rattle.packed_phaser.specs.{declared.word.Fields.Fields, Flat.Flat}

-- the fields of a word, from its lowest bit: 16 bits of parties that haven't arrived, 16 of
-- parties, 31 of the phase, and the bit of termination
unfoldable pub fields_of : ℕ → Fields
fields_of word = record {
  unarrived = word % 2 ^ 16;
  parties = word / 2 ^ 16 % 2 ^ 16;
  phase = word / 2 ^ 32 % 2 ^ 31;
  ended = word / 2 ^ 63 == 1;
}

-- a word stands for a phaser unless more parties are still to arrive than there are; 1 of 0 marks an empty phaser
abbrev pub IsWord : ℕ → Type 0
IsWord word = (word < 2 ^ 64) × ((fields_of word).unarrived ≤ max (fields_of word).parties 1)

-- the phaser that the fields describe: if nobody is still to arrive, the phaser is turned, or all have arrived if it is
-- terminated
abbrev pub record_of_fields : Fields → Flat
record_of_fields fields = record {
  phase = fields.phase;
  ended = fields.ended;
  parties = fields.parties;
  arrived = if fields.ended then fields.parties else fields.parties - fields.unarrived;
  turned = not fields.ended && (fields.unarrived == 0);
}

-- the phaser that a word stands for
abbrev pub record_of : ℕ → Flat
record_of word = record_of_fields (fields_of word)
