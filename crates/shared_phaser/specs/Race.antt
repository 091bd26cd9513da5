-- What a caller has seen after a call that lost each of its tries.
use Rattle.std.specs.Prelude.{◌≡◌, ℕ}
use Rattle.packed_phaser.specs.Word.{record_of}
use Rattle.shared_phaser.specs.{declared.calls.Raced.Raced, declared.history.Known.Known, History.at_end, Known.SeesMore}

-- No call was made, and since the caller's last look there were as many changes as tries. The caller has now seen all of them,
-- and the word is that of the phaser after them
pub record LosesRaces (k : Known) (tries : ℕ) (e : Raced) (l : Known) : Type 0 where
  pub sees : SeesMore k tries l
  pub word : record_of e.word ≡ at_end l.opening l.seen
  pub tries_is : e.tries ≡ tries
