-- The results of `register` and `arrive` on a word, translated to the results in `Flat.antt`.
use Rattle.packed_phaser.specs.{declared.word.Registered.Registered, declared.word.Arrived.Arrived, Word.record_of}
use Rattle.packed_phaser.specs.Flat.{Registration, Joins, JoinsLate, MustWait, Overfull, Arrival, Counts, Turns, ComesLate, IsUnregistered}
use Rattle.packed_phaser.specs.declared.word.Registered.TheVariants as registered
use Rattle.packed_phaser.specs.declared.word.Arrived.TheVariants as arrived

-- what the result of a registration says
abbrev pub registration_of : Registered → Registration
registration_of (registered.At word phase) = Joins (record_of word) phase
registration_of (registered.Dead view) = JoinsLate view
registration_of registered.Held = MustWait
registration_of registered.TooMany = Overfull

-- what the result of an arrival says
abbrev pub arrival_of : Arrived → Arrival
arrival_of (arrived.Counted word) = Counts (record_of word)
arrival_of (arrived.Turned word) = Turns (record_of word)
arrival_of (arrived.Dead view) = ComesLate view
arrival_of arrived.NotThere = IsUnregistered
